use Rattle.std.proofs.Common.{◌≡◌, take, map}
use Rattle.dav_core.specs.Changes.{moved_row}
use Rattle.dav_disk.proofs.paths.move_rows.Given as goal

abbrev pub invariant-loop-row : goal.invariant-loop-row
invariant-loop-row l = l.copy.items ≡ map (moved_row l.from l.to) (take l.row-index l.rows)
