-- A disk that tells nothing of its world.
use Rattle.std.specs.Prelude.{◌≡◌, None, Some}
use Rattle.dav_core.specs.Disk.{DiskState}
use Rattle.dav_core.specs.World.{World, IsWorld}

-- the same counts, live handles and live listers, and nothing told
abbrev pub untold : DiskState → DiskState
untold s = record s { told = None }

pub never_told : (w : World) → None ≡ Some w → IsWorld w
never_told w e = cc
