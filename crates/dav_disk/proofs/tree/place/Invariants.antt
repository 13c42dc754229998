use Rattle.std.proofs.Common.{◌≡◌, take, drop}
use Rattle.dav_core.specs.Allowed.{place, place_from}
use Rattle.dav_disk.proofs.tree.place.Given as goal

-- the walk goes on from the first i names
abbrev pub invariant-loop-i : goal.invariant-loop-i
invariant-loop-i l = place l.rows l.path ≡ place_from l.rows (take l.i l.path) (drop l.i l.path)
