use Rattle.std.proofs.Common.{codes, ◌∙◌}
use Rattle.dav_report.specs.Children.{texts}
use Rattle.dav_report.specs.Requests.{hrefs}
use Rattle.dav_report.proofs.Steps.{flat-joined, flat_none, flat_one, all_stays, all_more}
use Rattle.dav_report.proofs.filter_parts.read_links.Goals as goal

pub loop-node-preserved-in-None : goal.loop-node-preserved-in-None
loop-node-preserved-in-None c =
    all_stays hrefs (flat-joined (λ h. texts h.children) (codes "href")) c.loop-node.names c.as_slice-node-items.result.now c.loop-node.node-index c.node-item.result c.loop-node-test.true c.node-item.is (flat_none (λ h. texts h.children) (codes "href") _ c.in-None.ensures) c.loop-node.invariant

pub loop-node-preserved : goal.loop-node-preserved
loop-node-preserved c =
    c.in_ok-add_texts.ensures ∙ all_more hrefs (flat-joined (λ h. texts h.children) (codes "href")) c.loop-node.names _ c.as_slice-node-items.result.now c.loop-node.node-index c.node-item.result c.loop-node-test.true c.node-item.is (flat_one (λ h. texts h.children) (codes "href") _ c.in-Some.element.now c.in-Some.ensures) c.loop-node.invariant
