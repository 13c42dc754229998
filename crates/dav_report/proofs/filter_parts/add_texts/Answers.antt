use Rattle.std.proofs.Common.{[], ◌∷◌}
use Rattle.dav_report.specs.Children.{texts}
use Rattle.dav_report.proofs.Steps.{texts-joined, old_stays, old_more}
use Rattle.dav_report.proofs.filter_parts.add_texts.Goals as goal

pub loop-node-preserved-in-None : goal.loop-node-preserved-in-None
loop-node-preserved-in-None c = old_stays texts texts-joined c.args.names.now c.loop-node.names c.as_slice-node-items.result.now c.loop-node.node-index c.node-item.result c.loop-node-test.true c.node-item.is c.in-None.ensures c.loop-node.invariant

pub loop-node-preserved : goal.loop-node-preserved
loop-node-preserved c =
    rw (c.in_ok-push.ensures.ok, c.in_ok-try_clone.ensures) (old_more texts texts-joined c.args.names.now c.loop-node.names (c.in-Some.text.now ∷ []) c.as_slice-node-items.result.now c.loop-node.node-index c.node-item.result c.loop-node-test.true c.node-item.is c.in-Some.ensures c.loop-node.invariant)
