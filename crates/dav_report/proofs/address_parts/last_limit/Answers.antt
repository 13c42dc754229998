use Rattle.std.proofs.Common.{codes, take, option_copied, ap, ◌∙◌}
use Rattle.dav_lock.specs.Trees.{forest_of}
use Rattle.dav_report.specs.Children.{last_of}
use Rattle.dav_report.specs.AddressBooks.{counts, all_counts}
use Rattle.dav_report.proofs.Steps.{flat-joined, flat_none, flat_one, last_more, last_stays, later}
use Rattle.dav_report.proofs.address_parts.last_limit.Goals.{in-Some, in_default}
use Rattle.dav_report.proofs.address_parts.last_limit.Goals as goal

pub loop-node-preserved : goal.loop-node-preserved
loop-node-preserved c =
    let xs = c.as_slice-node-items.result.now in
    let joins = flat-joined (λ l. counts l.children) (codes "limit") in
    elim c.match-element_named.branch [
      | in-Some w ↦
          ap option_copied w.last-is ∙ last_more all_counts joins xs c.loop-node.node-index c.node-item.result (counts w.in-Some.element.now.children) (option_copied w.or-last.result) c.loop-node-test.true c.node-item.is
          (flat_one (λ l. counts l.children) (codes "limit") _ w.in-Some.element.now w.in-Some.ensures)
          (ap option_copied w.or-last.ensures ∙ later w.last_count.result c.loop-node.last (last_of (counts w.in-Some.element.now.children)) (last_of (all_counts (forest_of (take c.loop-node.node-index xs)))) w.last_count.ensures c.loop-node.invariant)
      | in_default w ↦
          ap option_copied w.last-is ∙ last_stays all_counts joins xs c.loop-node.node-index c.node-item.result (option_copied c.loop-node.last) c.loop-node-test.true c.node-item.is
          (flat_none (λ l. counts l.children) (codes "limit") _ w.in_default.ensures) c.loop-node.invariant
    ]
