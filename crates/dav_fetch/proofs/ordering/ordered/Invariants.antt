use Rattle.std.proofs.Common.{◌≡◌, ◌++◌, List, length, reverse}
use Rattle.std.specs.List.Sorted.{IsPermutation, IsSorted}
use Rattle.dav_core.specs.Path.{Names}
use Rattle.dav_fetch.specs.Copy.{path_cmp}
use Rattle.dav_fetch.proofs.Orders.{IsOnce}
use Rattle.dav_fetch.proofs.ordering.ordered.Given as goal

abbrev pub invariant-loop-path : goal.invariant-loop-path
invariant-loop-path l = (all : List Names) × IsPermutation l.fn.paths.items all × IsSorted path_cmp all
    × (done : List Names) × (all ≡ done ++ reverse l.paths.items) × IsOnce l.once.items done

abbrev pub decreases-loop-path : goal.decreases-loop-path
decreases-loop-path l = length l.paths.items
