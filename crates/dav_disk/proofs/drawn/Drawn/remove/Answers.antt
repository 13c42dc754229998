use Rattle.dav_disk.proofs.PlainRows.{plain_timed, plain_without}
use Rattle.dav_disk.proofs.drawn.Drawn.remove.Goals as goal

pub invariant_of-self-2 : goal.invariant_of-self-2
invariant_of-self-2 c =
    record { plain = rw (c.set_time.ensures, c.in_ok-take_away.ensures.ok) (plain_timed c.parent_of.result.now c.in-Some.time _ (plain_without c.as_slice-names.result.now c.args.self.now.rows c.args.self.now.plain)) }
