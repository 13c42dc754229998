-- The most calls of the disk by which paths are found, also from the root on where names fold: whatever the memory has,
-- and whatever was refused.
use Rattle.std.specs.Prelude.{◌≡◌, ◌+◌, ℕ, Bool, true, false, Some}
use Rattle.dav_core.specs.Disk.{DiskState}
use Rattle.dav_core.specs.Path.{Names}
use Rattle.dav_core.specs.Tree.{is_linked}
use Rattle.dav_core.specs.World.{World}
use Rattle.dav_model.specs.Calls.{calls_from_root, is_link_on_way}
use Rattle.dav_local.specs.Near.{CallsAtMost, members_at}
use Rattle.dav_local.specs.Places.{Place}

-- Over a told world in which no link is met on the way, so many calls at most beside those of a walk from the root.
abbrev pub CostsAtMost : ℕ → Place → Names → Place → Type 0
CostsAtMost n p names q = (w : World) → p.disk.told ≡ Some w → is_link_on_way w.tree names ≡ false
    → CallsAtMost (calls_from_root w names + n) p.disk q.disk

-- By whether a path is found without the disk: then so few calls at most, over any disk; and else so many at most beside
-- those of a walk from the root.
abbrev pub CostsBy : Bool → ℕ → ℕ → Place → Names → Place → Type 0
CostsBy true few more p names q = CallsAtMost few p.disk q.disk
CostsBy false few more p names q = CostsAtMost more p names q

-- A step of a walk asks a look, and what a search of the directory asks.
abbrev pub StepsFew : DiskState → Names → DiskState → Type 0
StepsFew s at t = (w : World) → s.told ≡ Some w → is_linked w.tree at ≡ false → CallsAtMost (members_at w at + 3) s t
