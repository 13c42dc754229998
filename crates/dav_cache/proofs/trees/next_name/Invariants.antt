use Rattle.std.proofs.Common.{◌≡◌, ◌≤◌, drop, length}
use Rattle.dav_memory.specs.Trees as trees
use Rattle.dav_cache.proofs.trees.next_name.Given as goal

abbrev pub invariant-loop-left : goal.invariant-loop-left
invariant-loop-left l = record { best : l.best ≡ trees.next_name (drop l.left l.rows) l.dir l.last; within : l.left ≤ length l.rows }

abbrev pub decreases-loop-left : goal.decreases-loop-left
decreases-loop-left l = l.left
