use Rattle.std.proofs.Common.{◌≡◌}
use Rattle.std.specs.Vec.Iter.{into_iter_items, into_iter_len}
use Rattle.dav_lock.specs.Trees.{forest_of}
use Rattle.dav_report.specs.Children.{elements}
use Rattle.dav_report.proofs.element_iters.ElementsIntoIterator.next.Given as goal

abbrev pub invariant-loop-node : goal.invariant-loop-node
invariant-loop-node l = elements (forest_of (into_iter_items l.self.nodes)) ≡ elements (forest_of (into_iter_items l.initial.self.nodes))

abbrev pub decreases-loop-node : goal.decreases-loop-node
decreases-loop-node l = into_iter_len l.self.nodes
