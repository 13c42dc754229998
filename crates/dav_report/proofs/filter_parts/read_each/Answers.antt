use Rattle.std.proofs.Common.{sym, ◌∙◌}
use Rattle.dav_report.proofs.Steps.{each_stays, each_more, each_faulty}
use Rattle.dav_report.proofs.filter_parts.read_each.Goals as goal

pub loop-node-preserved-in-None : goal.loop-node-preserved-in-None
loop-node-preserved-in-None g c =
    each_stays g.F.FromElement.asked c.args.name.now c.as_slice-node-items.result.now c.loop-node.node-index c.node-item.result c.loop-node.filters.items c.loop-node-test.true
    c.node-item.is c.in-None.ensures c.loop-node.invariant

pub returns-in-None-2 : goal.returns-in-None-2
returns-in-None-2 g c =
    each_faulty g.F.FromElement.asked c.args.name.now c.as_slice-node-items.result.now c.args.children.now c.loop-node.node-index c.node-item.result c.in-Some.element.now
    c.as_slice-node-items.ensures c.loop-node-test.true c.node-item.is c.in-Some.ensures (sym c.in_ok-filter.ensures ∙ c.in-None-2.is)

pub loop-node-preserved : goal.loop-node-preserved
loop-node-preserved g c =
    rw c.in_ok-push.ensures.items
    (each_more g.F.FromElement.asked c.args.name.now c.as_slice-node-items.result.now c.loop-node.node-index c.node-item.result c.loop-node.filters.items c.in-Some.element.now
    c.in-Some-2.filter c.loop-node-test.true c.node-item.is c.in-Some.ensures (sym c.in_ok-filter.ensures ∙ c.in-Some-2.is) c.loop-node.invariant)
