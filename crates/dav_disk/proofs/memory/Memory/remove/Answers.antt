use Rattle.std.proofs.Common.{refl, sym, ◌∙◌, Ok, Some}
use Rattle.dav_core.specs.Changes.{removed_found}
use Rattle.dav_core.specs.Edits.{takes}
use Rattle.dav_disk.proofs.Standing.{take_is_left, take_is_none, taken_made, goes, make_at, spent_at}
use Rattle.dav_core.specs.World.{World}
use Rattle.dav_core.specs.Tree.{look}
use Rattle.dav_disk.specs.Memory.{known_of}
use Rattle.dav_disk.proofs.memory.Memory.remove.Goals as goal

pub returns-then-not-has_tick_left : goal.returns-then-not-has_tick_left
returns-then-not-has_tick_left c =
    let w : World = (known_of c.args.self.now).world in
    spent_at (Ok (Some (takes c.args.path.now))) (takes c.args.path.now) (known_of c.args.self.now) refl (take_is_none w c.args.path.now (sym c.has_tick_left.ensures ∙ c.if-not-has_tick_left.true))

pub returns : goal.returns
returns c =
    let w : World = (known_of c.args.self.now).world in
    let left = take_is_left w c.args.path.now (sym c.has_tick_left.ensures ∙ c.if-not-has_tick_left.false) in
    make_at (Ok (Some (takes c.args.path.now))) (takes c.args.path.now) (known_of c.args.self.now) (known_of c.make.new.self) (removed_found (look w.tree c.args.path.now) w) c.make.result refl left
    (taken_made w (removed_found (look w.tree c.args.path.now) w) c.args.path.now (goes w.tree c.args.path.now c.args.self.now.tree c.requires) left refl)
    (rw (← c.in-Ok.ensures.copy) c.make.ensures.ok) c.make.ensures.err
