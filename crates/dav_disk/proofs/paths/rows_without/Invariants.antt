use Rattle.std.proofs.Common.{◌≡◌, take}
use Rattle.dav_core.specs.Changes.{without}
use Rattle.dav_disk.proofs.paths.rows_without.Given as goal

-- the rows so far that stay
abbrev pub invariant-loop-row : goal.invariant-loop-row
invariant-loop-row l = l.copy.items ≡ without l.path (take l.row-index l.rows)
