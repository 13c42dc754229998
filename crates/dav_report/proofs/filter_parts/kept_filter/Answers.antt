use Rattle.std.proofs.Common.{codes, sym, ap, ◌∙◌}
use Rattle.std.specs.Option.{option_map}
use Rattle.std.specs.List.{flat_map}
use Rattle.dav_report.specs.Children.{last_of}
use Rattle.dav_report.proofs.Steps.{each_faulty, kept_stays, kept_more}
use Rattle.dav_report.proofs.filter_parts.kept_filter.Goals as goal

pub loop-node-preserved-in-None : goal.loop-node-preserved-in-None
loop-node-preserved-in-None g c =
    kept_stays (λ f. g.F.Outer.outer f.children) (codes "filter") (λ fs. fs) c.as_slice-node-items.result.now c.loop-node.node-index c.node-item.result c.loop-node.kept
    c.loop-node-test.true c.node-item.is c.in-None.ensures c.loop-node.invariant

pub returns-in-None-2 : goal.returns-in-None-2
returns-in-None-2 g c =
    ap (option_map (λ filters. last_of (flat_map (λ fs. fs) filters)))
    (each_faulty (λ f. g.F.Outer.outer f.children) (codes "filter") c.as_slice-node-items.result.now c.args.children.now c.loop-node.node-index c.node-item.result
    c.in-Some.element.now c.as_slice-node-items.ensures c.loop-node-test.true c.node-item.is c.in-Some.ensures
    (sym c.in_ok-filters.ensures ∙ ap (option_map (λ v. v.items)) c.in-None-2.is))

pub loop-node-preserved : goal.loop-node-preserved
loop-node-preserved g c =
    rw c.later-kept.ensures
    (kept_more (λ f. g.F.Outer.outer f.children) (codes "filter") (λ fs. fs) c.as_slice-node-items.result.now c.loop-node.node-index c.node-item.result c.loop-node.kept
    c.in-Some.element.now c.in-Some-2.filters.items c.loop-node-test.true c.node-item.is c.in-Some.ensures
    (sym c.in_ok-filters.ensures ∙ ap (option_map (λ v. v.items)) c.in-Some-2.is) c.loop-node.invariant)
