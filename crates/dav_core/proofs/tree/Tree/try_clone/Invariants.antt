use Rattle.std.proofs.Common.{◌≡◌, take}
use Rattle.dav_core.proofs.tree.Tree.try_clone.Given as goal

abbrev pub invariant-loop-row : goal.invariant-loop-row
invariant-loop-row l = l.copy.items ≡ take l.row-index l.row-items
