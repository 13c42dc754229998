use Rattle.std.proofs.Common.{◌≡◌, ap, ◌∙◌}
use Rattle.dav_core.specs.World.{World, at_key}
use Rattle.dav_core.specs.Changes.{changed}
use Rattle.dav_disk.specs.Files.{live_at, stored_at}
use Rattle.dav_disk.specs.Memory.{known_of}
use Rattle.dav_disk.proofs.Moved.{changed_good}
use Rattle.dav_disk.proofs.Standing.{on_fine}
use Rattle.dav_disk.proofs.Turned.{good_of, kept_of, knows}
use Rattle.dav_disk.proofs.DirsStay.{changed_bared}
use Rattle.dav_disk.proofs.GivenStay.{changed_given}
use Rattle.dav_disk.proofs.memory.Memory.make.Goals as goal

pub invariant_of-self-2 : goal.invariant_of-self-2
invariant_of-self-2 c =
    let old : World = (known_of c.args.self.now).world in
    let v : World = record old { tree = c.give.new.rows; files = stored_at c.give.new.files; greatest = c.give.new.greatest; latest = c.give.new.latest } in
    let drawn = on_fine c.change.result _ c.is_err.result c.is_err.ensures.value c.if-is_err.false c.change.ensures in
    let made : v ≡ changed old c.args.change.now = c.give.ensures.drawn old ∙ drawn old ∙ ap (λ w. changed w c.args.change.now) (c.in-Ok.ensures old) in
    let kept = kept_of v (changed old c.args.change.now) made (changed_good old c.args.change.now (good_of old c.args.self.now.tree c.args.self.now.stored c.args.self.now.given)) in
    let bared = changed_bared v old (at_key c.args.self.now.opens) c.args.change.now made (good_of old c.args.self.now.tree c.args.self.now.stored c.args.self.now.given) c.args.self.now.given
    (record { bare = c.args.self.now.bare; kept = c.args.self.now.kept }) in
    record { tree = kept.tree; plain = c.give.ensures.plain; stored = kept.stored; given = changed_given v old c.args.change.now made c.args.self.now.given; bare = bared.bare; kept = bared.kept }

pub returns-clause-ok : goal.returns-clause-ok
returns-clause-ok c =
    let old : World = (known_of c.args.self.now).world in
    let drawn = on_fine c.change.result _ c.is_err.result c.is_err.ensures.value c.if-is_err.false c.change.ensures in
    let v : World = record old { tree = c.give.new.rows; files = stored_at c.give.new.files; greatest = c.give.new.greatest; latest = c.give.new.latest } in
    let made : v ≡ changed old c.args.change.now = c.give.ensures.drawn old ∙ drawn old ∙ ap (λ w. changed w c.args.change.now) (c.in-Ok.ensures old) in
    ap (λ v. knows v (live_at c.args.self.now.opens)) made
