use Rattle.dav_report.specs.Children.{texts}
use Rattle.dav_report.proofs.Steps.{texts-joined, none_more, first_here}
use Rattle.dav_report.proofs.children.first_text.Goals as goal

pub returns-in-Some : goal.returns-in-Some
returns-in-Some c =
    first_here texts texts-joined c.as_slice-node-items.result.now c.args.nodes.now c.loop-node.node-index c.node-item.result c.in-Some.text.now c.as_slice-node-items.ensures
    c.loop-node-test.true c.node-item.is c.in-Some.ensures c.loop-node.invariant

pub loop-node-preserved : goal.loop-node-preserved
loop-node-preserved c =
    none_more texts texts-joined c.as_slice-node-items.result.now c.loop-node.node-index c.node-item.result c.loop-node-test.true c.node-item.is c.in-None.ensures c.loop-node.invariant
