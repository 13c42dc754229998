use Rattle.std.proofs.Common.{◌∙◌, sym, ap}
use Rattle.dav_core.specs.declared.tree.Row.{Row}
use Rattle.dav_core.specs.Edits.{timed_number}
use Rattle.dav_disk.proofs.Lists.{mid_more}
use Rattle.dav_disk.proofs.Filled.{row_timed, row_left}
use Rattle.dav_disk.proofs.paths.set_times.Goals as goal
use Rattle.dav_disk.proofs.paths.set_times.Goals.{then-row-number, else-row-number}

pub loop-row-preserved : goal.loop-row-preserved
loop-row-preserved c =
    elim c.if-row-number.branch [
      | then-row-number w ↦ (w.rows-is ∙ mid_more (timed_number c.args.number c.args.time) c.args.rows.now c.loop-row.rows c.loop-row.row-index c.row-item.result _ c.loop-row-test.true c.loop-row.invariant c.row-item.is
          (ap (λ (r : Row). record r { time = c.args.time }) (sym c.row-item.is) ∙ row_timed c.args.number c.args.time c.row-item.result (ap (λ (r : Row). r.number) c.row-item.is ∙ w.if-row-number.true)))
      | else-row-number w ↦ (w.rows-is ∙ mid_more (timed_number c.args.number c.args.time) c.args.rows.now c.loop-row.rows c.loop-row.row-index c.row-item.result _ c.loop-row-test.true c.loop-row.invariant c.row-item.is
          (sym c.row-item.is ∙ row_left c.args.number c.args.time c.row-item.result (λ e. w.if-row-number.false (ap (λ (r : Row). r.number) (sym c.row-item.is) ∙ e))))
    ]
