use denote.Shadow.{shadow}
use denote.Text.{Utf8}
use Rattle.std.proofs.Common.{length}
use Rattle.dav_page.proofs.Reader.{RowsRead}
use Rattle.dav_page.proofs.reading.read_rows.Given as goal

abbrev pub invariant-rows : goal.invariant-rows
invariant-rows l = RowsRead l.fn.whole l.rows.items l.left × shadow (Utf8 l.left)

abbrev pub decreases-rows : goal.decreases-rows
decreases-rows l = length l.left
