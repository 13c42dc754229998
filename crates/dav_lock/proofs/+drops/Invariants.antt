use Rattle.std.proofs.Common.{◌≤◌}
use Rattle.dav_lock.specs.Forests.{height}
use Rattle.dav_lock.specs.Trees.{forest_of}
use Rattle.dav_lock.proofs.Weights.{weight}
use Rattle.dav_lock.proofs.+drops.Given as goal

abbrev pub decreases-element::Nodes::drop : goal.decreases-element::Nodes::drop
decreases-element::Nodes::drop l = goal.size-element::Nodes::drop l

abbrev pub invariant-element::Nodes::drop-loop-node : goal.invariant-element::Nodes::drop-loop-node
invariant-element::Nodes::drop-loop-node l = height (forest_of l.waiting.items) ≤ height l.fn.self

abbrev pub decreases-element::Nodes::drop-loop-node : goal.decreases-element::Nodes::drop-loop-node
decreases-element::Nodes::drop-loop-node l = weight (forest_of l.waiting.items)
