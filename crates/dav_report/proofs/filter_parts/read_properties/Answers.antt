use Rattle.std.proofs.Common.{codes, map, ◌∙◌}
use Rattle.dav_report.specs.Children.{elements}
use Rattle.dav_report.specs.Requests.{properties}
use Rattle.dav_report.proofs.Steps.{flat-joined, flat_none, flat_one, all_stays, all_more}
use Rattle.dav_report.proofs.filter_parts.read_properties.Goals as goal

pub loop-node-preserved-in-None : goal.loop-node-preserved-in-None
loop-node-preserved-in-None c =
    all_stays properties (flat-joined (λ p. map (λ e. e.name) (elements p.children)) (codes "prop")) c.loop-node.names c.as_slice-node-items.result.now c.loop-node.node-index c.node-item.result c.loop-node-test.true c.node-item.is (flat_none (λ p. map (λ e. e.name) (elements p.children)) (codes "prop") _ c.in-None.ensures) c.loop-node.invariant

pub loop-node-preserved : goal.loop-node-preserved
loop-node-preserved c =
    c.in_ok-add_names.ensures ∙ all_more properties (flat-joined (λ p. map (λ e. e.name) (elements p.children)) (codes "prop")) c.loop-node.names _ c.as_slice-node-items.result.now c.loop-node.node-index c.node-item.result c.loop-node-test.true c.node-item.is (flat_one (λ p. map (λ e. e.name) (elements p.children)) (codes "prop") _ c.in-Some.element.now c.in-Some.ensures) c.loop-node.invariant
