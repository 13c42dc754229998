use Rattle.std.proofs.Common.{◌<◌, ◌∙◌, refl, ap, arith, length, vec_len}
use Rattle.dav_core.specs.World.{World, at_key}
use Rattle.dav_core.specs.Changes.{turned}
use Rattle.dav_disk.specs.Making.{drawn_in}
use Rattle.dav_disk.specs.Files.{live_at, stored_at}
use Rattle.dav_disk.specs.Memory.{known_of}
use Rattle.dav_disk.proofs.Turned.{turn_made, turned_good, good_of, kept_of, some_batch, knows}
use Rattle.dav_disk.proofs.DirsStay.{turned_bared}
use Rattle.dav_disk.proofs.GivenStay.{turned_given}
use Rattle.dav_disk.proofs.memory.Memory.turn.Goals as goal

pub invariant_of-self-2 : goal.invariant_of-self-2
invariant_of-self-2 c =
    let old : World = (known_of c.args.self.now).world in
    let w : World = record old { script = c.remove.new.self.items } in
    let len : 0 < vec_len c.args.self.now.script = some_batch c.is_empty.result _ c.is_empty.ensures c.if-is_empty.false in
    let some : 0 < length c.args.self.now.script.items = omega (arith, c.args.self.now.script.ok) in
    let v : World = record w { tree = c.give.new.rows; files = stored_at c.give.new.files; greatest = c.give.new.greatest; latest = c.give.new.latest } in
    let made = turn_made old v (drawn_in c.in_ok-drawn.drawn w) c.args.self.now.rows c.remove.new.self.items c.as_slice.result.now c.index.result.now
    some c.index.ensures c.as_slice.ensures c.remove.ensures.items refl (c.in_ok-drawn.ensures w) (c.give.ensures.drawn w ∙ c.in_ok-make.ensures w) in
    let kept = kept_of v (turned old) made (turned_good old (good_of old c.args.self.now.tree c.args.self.now.stored c.args.self.now.given)) in
    let bared = turned_bared v old (at_key c.args.self.now.opens) made (good_of old c.args.self.now.tree c.args.self.now.stored c.args.self.now.given) c.args.self.now.given
    (record { bare = c.args.self.now.bare; kept = c.args.self.now.kept }) in
    record { tree = kept.tree; plain = c.give.ensures.plain; stored = kept.stored; given = turned_given v old made c.args.self.now.given; bare = bared.bare; kept = bared.kept }

pub returns-clause-ok : goal.returns-clause-ok
returns-clause-ok c =
    let old : World = (known_of c.args.self.now).world in
    let w : World = record old { script = c.remove.new.self.items } in
    let len : 0 < vec_len c.args.self.now.script = some_batch c.is_empty.result _ c.is_empty.ensures c.if-is_empty.false in
    let some : 0 < length c.args.self.now.script.items = omega (arith, c.args.self.now.script.ok) in
    let v : World = record w { tree = c.give.new.rows; files = stored_at c.give.new.files; greatest = c.give.new.greatest; latest = c.give.new.latest } in
    let made = turn_made old v (drawn_in c.in_ok-drawn.drawn w) c.args.self.now.rows c.remove.new.self.items c.as_slice.result.now c.index.result.now
    some c.index.ensures c.as_slice.ensures c.remove.ensures.items refl (c.in_ok-drawn.ensures w) (c.give.ensures.drawn w ∙ c.in_ok-make.ensures w) in
    ap (λ v. knows v (live_at c.args.self.now.opens)) made
