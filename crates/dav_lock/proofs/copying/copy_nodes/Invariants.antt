use Rattle.std.proofs.Common.{◌≡◌, ◌+◌}
use Rattle.dav_lock.specs.Forests.{joined}
use Rattle.dav_lock.specs.Trees.{forest_of}
use Rattle.dav_lock.proofs.Weights.{weight}
use Rattle.dav_lock.proofs.Copies.{held, open_weight}
use Rattle.dav_lock.proofs.copying.copy_nodes.Given as goal

abbrev pub invariant-loop-node : goal.invariant-loop-node
invariant-loop-node l = held l.open.items (joined l.done (forest_of l.left)) ≡ forest_of l.nodes

abbrev pub decreases-loop-node : goal.decreases-loop-node
decreases-loop-node l = open_weight l.open.items + weight (forest_of l.left)
