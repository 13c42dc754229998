-- The measure of components that are let go.
use Rattle.std.proofs.Common.{◌+◌, ◌*◌, ◌≤◌, List, [], ◌∷◌, arith}
use denote.Param.Weighed.{most}
use Rattle.dav_calendar.specs.Trees.{depth}
use Rattle.dav_calendar.specs.TreeLists.{tree_of}
use Rattle.dav_calendar.specs.declared.component.Component.{Component}
use Rattle.dav_calendar.specs.declared.component.Components.TheDeep.{size-Component}

pub trees_size : (fs : List Component) → most size-Component fs ≤ 2 * depth (tree_of fs) + 1
trees_size [] = omega arith
trees_size (f ∷ fs) = omega (arith, trees_size fs)
