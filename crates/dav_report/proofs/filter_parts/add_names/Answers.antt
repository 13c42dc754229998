use Rattle.std.proofs.Common.{[], ◌∷◌, map, ap}
use Rattle.dav_report.specs.Children.{elements}
use Rattle.dav_report.proofs.Steps.{names-joined, old_stays, old_more}
use Rattle.dav_report.proofs.filter_parts.add_names.Goals as goal

pub loop-node-preserved-in-None : goal.loop-node-preserved-in-None
loop-node-preserved-in-None c =
    old_stays (λ f. map (λ e. e.name) (elements f)) names-joined c.args.names.now c.loop-node.names c.as_slice-node-items.result.now c.loop-node.node-index c.node-item.result c.loop-node-test.true c.node-item.is (ap (map (λ e. e.name)) c.in-None.ensures) c.loop-node.invariant

pub loop-node-preserved : goal.loop-node-preserved
loop-node-preserved c =
    rw (c.in_ok-push.ensures.ok, c.in_ok-try_clone.ensures)
    (old_more (λ f. map (λ e. e.name) (elements f)) names-joined c.args.names.now c.loop-node.names (c.in-Some.element.now.name ∷ []) c.as_slice-node-items.result.now c.loop-node.node-index c.node-item.result c.loop-node-test.true c.node-item.is (ap (map (λ e. e.name)) c.in-Some.ensures) c.loop-node.invariant)
