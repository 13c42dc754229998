use Rattle.std.proofs.Common.{◌≡◌, length}
use Rattle.dav_lock.specs.Trees.{forest_of}
use Rattle.dav_report.specs.Children.{elements}
use Rattle.dav_report.proofs.element_iters.ElementsIterator.next.Given as goal

abbrev pub invariant-loop-first : goal.invariant-loop-first
invariant-loop-first l = elements (forest_of l.self.nodes.now) ≡ elements (forest_of l.initial.self.nodes.now)

abbrev pub decreases-loop-first : goal.decreases-loop-first
decreases-loop-first l = length l.self.nodes.now
