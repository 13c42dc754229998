use Rattle.std.proofs.Common.{◌≡◌, ◌++◌, take, drop, map}
use Rattle.dav_core.specs.Changes.{timed_row}
use Rattle.dav_disk.proofs.paths.set_time.Given as goal

-- the rows so far have their times
abbrev pub invariant-loop-row : goal.invariant-loop-row
invariant-loop-row l = l.rows ≡ map (timed_row l.path l.time) (take l.row-index l.fn.rows) ++ drop l.row-index l.fn.rows
