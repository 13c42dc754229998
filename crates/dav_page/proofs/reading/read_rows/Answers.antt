use Rattle.std.proofs.Common.{Ok, ap, rules}
use Rattle.dav_io.proofs.Cases.{if_some}
use Rattle.dav_page.specs.Cuts.{row_texts}
use Rattle.dav_page.specs.Pages.{IsRow}
use Rattle.dav_page.proofs.Reader.{at_end, not_end, rows_found, rows_step, rows_stop, rows_wrong}
use Rattle.dav_page.proofs.reading.read_rows.Goals as goal

pub returns-in_default-clause-none : goal.returns-in_default-clause-none
returns-in_default-clause-none c = λ e rows h.
    rows_stop c.args.whole.now c.rows.left.now c.rows.rows.items rows c.rows.invariant.0 (c.cut_row.ensures.none c.in_default.is)
    (not_end c.rows.left.now c.is_end.result c.is_end.ensures c.rows-test.true) h

pub returns-in_default-2-clause-none : goal.returns-in_default-2-clause-none
returns-in_default-2-clause-none c = λ e rows h.
    rows_wrong c.args.whole.now c.rows.left.now c.in-Some.behind.now c.rows.rows.items rows (row_texts c.in-Some.cut) c.rows.invariant.0
    c.in-Some.ensures.some (not_end c.rows.left.now c.is_end.result c.is_end.ensures c.rows-test.true)
    (c.in_ok-row.ensures.none (ap Ok c.in_default-2.is)) h

pub rows-preserved : goal.rows-preserved
rows-preserved c = (
  rw c.in_ok-push.ensures.items
      (rows_step c.args.whole.now c.rows.left.now c.in-Some.behind.now c.rows.rows.items (row_texts c.in-Some.cut) c.in-Some-2.row c.rows.invariant.0
      c.in-Some.ensures.some (not_end c.rows.left.now c.is_end.result c.is_end.ensures c.rows-test.true)
      (if_some (IsRow (row_texts c.in-Some.cut)) _ _ c.in-Some-2.is c.in_ok-row.ensures.some)),
  search rules,
)

pub returns-clause-some : goal.returns-clause-some
returns-clause-some c = rw c.new.ensures (rows_found c.args.whole.now c.rows.left.now c.rows.rows.items c.rows.invariant.0
    (at_end c.rows.left.now c.is_end.result c.is_end.ensures c.rows-test.false))
