use Rattle.std.proofs.Common.{◌≡◌, take, map}
use Rattle.dav_memory.specs.Trees.{fold_name}
use Rattle.dav_memory.proofs.folding.fold.Given as goal

abbrev pub invariant-loop-name : goal.invariant-loop-name
invariant-loop-name l = l.folded.items ≡ map fold_name (take l.name-index l.name-items)
