use Rattle.std.proofs.Common.{◌≡◌, drop}
use Rattle.dav_core.specs.World.{World}
use Rattle.dav_core.specs.Changes.{all_changed}
use Rattle.dav_disk.specs.Making.{drawn_in}
use Rattle.dav_disk.proofs.drawn.Drawn.make.Given as goal

-- the changes that are left make of the world what all make of the first
abbrev pub invariant-loop-change : goal.invariant-loop-change
invariant-loop-change l = (w : World) → all_changed (drawn_in l.self w) (drop l.change-index l.changes) ≡ all_changed (drawn_in l.initial.self w) l.changes
