use Rattle.std.proofs.Common.{◌≡◌, ◌++◌}
use Rattle.dav_disk.proofs.indexed_rows.IndexedRows.of.Given as goal

-- the rows so far
abbrev pub invariant-loop-row : goal.invariant-loop-row
invariant-loop-row l = l.all ++ l.row-iterator.rest.items ≡ l.fn.rows.items
