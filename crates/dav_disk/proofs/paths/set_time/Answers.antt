use Rattle.std.proofs.Common.{◌∙◌, sym, ap}
use Rattle.dav_core.specs.declared.tree.Row.{Row}
use Rattle.dav_core.specs.Changes.{timed_row}
use Rattle.dav_disk.proofs.Lists.{mid_more}
use Rattle.dav_disk.proofs.Times.{timed_yes, timed_no}
use Rattle.dav_disk.proofs.paths.set_time.Goals as goal
use Rattle.dav_disk.proofs.paths.set_time.Goals.{then-eq, else-eq}

pub loop-row-preserved : goal.loop-row-preserved
loop-row-preserved c =
    let there = c.as_slice.ensures.value ∙ ap (λ (r : Row). r.path) (sym c.row-item.is) in
    elim c.if-eq.branch [
      | then-eq w ↦ (w.rows-is ∙ mid_more (timed_row c.args.path.now c.args.time) c.args.rows.now c.loop-row.rows c.loop-row.row-index c.row-item.result _ c.loop-row-test.true c.loop-row.invariant c.row-item.is
          (ap (λ (r : Row). record r { time = c.args.time }) (sym c.row-item.is) ∙ timed_yes c.args.path.now c.as_slice.result.now c.args.time c.eq.result c.row-item.result c.eq.ensures there w.if-eq.true))
      | else-eq w ↦ (w.rows-is ∙ mid_more (timed_row c.args.path.now c.args.time) c.args.rows.now c.loop-row.rows c.loop-row.row-index c.row-item.result _ c.loop-row-test.true c.loop-row.invariant c.row-item.is
          (sym c.row-item.is ∙ sym (timed_no c.args.path.now c.as_slice.result.now c.args.time c.eq.result c.row-item.result c.eq.ensures there w.if-eq.false)))
    ]
