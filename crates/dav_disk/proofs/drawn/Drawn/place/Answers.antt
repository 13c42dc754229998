use Rattle.std.proofs.Common.{◌≡◌, ◌∙◌, ap}
use Rattle.dav_core.specs.World.{ArePlain}
use Rattle.dav_core.specs.Changes.{without}
use Rattle.dav_disk.proofs.PlainRows.{plain_moved, plain_timed, plain_without}
use Rattle.dav_disk.proofs.drawn.Drawn.place.Goals as goal

pub invariant_of-self-2 : goal.invariant_of-self-2
invariant_of-self-2 c =
    let kept : c.in_ok-kept.kept.items ≡ without c.as_slice-2.result.now c.args.self.now.rows = c.in_ok-kept.ensures ∙ ap (without c.as_slice-2.result.now) c.as_slice.ensures in
    let left : ArePlain c.in_ok-kept.kept.items = rw kept (plain_without c.as_slice-2.result.now c.args.self.now.rows c.args.self.now.plain) in
    record {
      plain = rw (c.set_time.ensures, c.in_ok-self.ensures, c.in_ok-move_rows.ensures, c.deref.ensures.value)
          (plain_timed c.parent_of.result.now c.args.time _ (plain_moved c.args.from.now c.args.to.now c.in_ok-kept.kept.items c.as_slice-2.ensures.plain left));
    }
