use Rattle.std.proofs.Common.{option_copied, ap, ◌∙◌}
use Rattle.dav_report.specs.Children.{named}
use Rattle.dav_report.proofs.Steps.{named-joined, last_here, last_stays}
use Rattle.dav_report.proofs.children.last_named.Goals.{in-Some, in-None}
use Rattle.dav_report.proofs.children.last_named.Goals as goal

pub loop-node-preserved : goal.loop-node-preserved
loop-node-preserved c =
    let xs = c.as_slice-node-items.result.now in
    elim c.match-element_named.branch [
      | in-Some w ↦
          ap option_copied w.last-is ∙ last_here (named c.args.name.now) (named-joined c.args.name.now) xs c.loop-node.node-index c.node-item.result w.in-Some.element.now c.loop-node-test.true c.node-item.is w.in-Some.ensures
      | in-None w ↦
          ap option_copied w.last-is ∙ last_stays (named c.args.name.now) (named-joined c.args.name.now) xs c.loop-node.node-index c.node-item.result (option_copied c.loop-node.last) c.loop-node-test.true c.node-item.is
          w.in-None.ensures c.loop-node.invariant
    ]
