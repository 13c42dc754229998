use Rattle.std.proofs.Common.{◌≡◌, ◌++◌, take, drop, map}
use Rattle.dav_core.specs.Edits.{timed_number}
use Rattle.dav_disk.proofs.paths.set_times.Given as goal

-- the rows so far have their times
abbrev pub invariant-loop-row : goal.invariant-loop-row
invariant-loop-row l = l.rows ≡ map (timed_number l.number l.time) (take l.row-index l.fn.rows) ++ drop l.row-index l.fn.rows
