use Rattle.dav_report.specs.Children.{named}
use Rattle.dav_report.proofs.Steps.{named-joined, none_more, first_here}
use Rattle.dav_report.proofs.children.first_named.Goals as goal

pub returns-in-Some : goal.returns-in-Some
returns-in-Some c =
    first_here (named c.args.name.now) (named-joined c.args.name.now) c.as_slice-node-items.result.now c.args.nodes.now c.loop-node.node-index c.node-item.result c.in-Some.element.now c.as_slice-node-items.ensures
    c.loop-node-test.true c.node-item.is c.in-Some.ensures c.loop-node.invariant

pub loop-node-preserved : goal.loop-node-preserved
loop-node-preserved c =
    none_more (named c.args.name.now) (named-joined c.args.name.now) c.as_slice-node-items.result.now c.loop-node.node-index c.node-item.result c.loop-node-test.true c.node-item.is c.in-None.ensures c.loop-node.invariant
