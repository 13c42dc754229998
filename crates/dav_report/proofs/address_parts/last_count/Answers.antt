use Rattle.std.proofs.Common.{codes, take, option_copied, ap, sym, ◌∙◌}
use Rattle.std.specs.Option.{option_to_list}
use Rattle.dav_lock.specs.Trees.{forest_of}
use Rattle.dav_report.specs.Children.{texts, first_of, last_of}
use Rattle.dav_report.specs.AddressBooks.{counts}
use Rattle.dav_report.proofs.Steps.{flat-joined, flat_none, flat_one, last_more, last_of-one, last_stays, later}
use Rattle.dav_report.proofs.address_parts.last_count.Goals.{in-Some, in_default}
use Rattle.dav_report.proofs.address_parts.last_count.Goals as goal

pub loop-node-preserved : goal.loop-node-preserved
loop-node-preserved c =
    let xs = c.as_slice-node-items.result.now in
    let joins = flat-joined (λ n. option_to_list (first_of (texts n.children))) (codes "nresults") in
    elim c.match-element_named.branch [
      | in-Some w ↦
          let first = first_of (texts w.in-Some.element.now.children) in
          ap option_copied w.last-is ∙ last_more counts joins xs c.loop-node.node-index c.node-item.result (option_to_list first) (option_copied w.or-last.result) c.loop-node-test.true c.node-item.is
          (flat_one (λ n. option_to_list (first_of (texts n.children))) (codes "nresults") _ w.in-Some.element.now w.in-Some.ensures)
          (ap option_copied w.or-last.ensures ∙ later w.first_text.result c.loop-node.last (last_of (option_to_list first)) (last_of (counts (forest_of (take c.loop-node.node-index xs)))) (w.first_text.ensures ∙ sym (last_of-one first)) c.loop-node.invariant)
      | in_default w ↦
          ap option_copied w.last-is ∙ last_stays counts joins xs c.loop-node.node-index c.node-item.result (option_copied c.loop-node.last) c.loop-node-test.true c.node-item.is
          (flat_none (λ n. option_to_list (first_of (texts n.children))) (codes "nresults") _ w.in_default.ensures) c.loop-node.invariant
    ]
