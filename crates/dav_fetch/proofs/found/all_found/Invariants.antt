use Rattle.std.proofs.Common.{take}
use Rattle.std.specs.List.{AllZip}
use Rattle.dav_fetch.specs.Walk.{IsFound}
use Rattle.dav_fetch.proofs.found.all_found.Given as goal

abbrev pub invariant-loop-row : goal.invariant-loop-row
invariant-loop-row l = AllZip (IsFound l.dir.names) (take l.row-index l.rows) l.all.items
