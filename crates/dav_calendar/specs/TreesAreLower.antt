-- The components in a component nest less deep than those that hold it: the law that their measure cites, so it stands
-- among the definitions.
use Rattle.std.specs.Prelude.{◌≤◌, max, List, [], ◌∷◌}
use Rattle.std.proofs.Common.{arith}
use denote.Param.Weighed.{most}
use Rattle.dav_calendar.specs.Trees.{depth}
use Rattle.dav_calendar.specs.TreeLists.{tree_of}
use Rattle.dav_calendar.specs.declared.component.Component.{Component}
use Rattle.dav_calendar.specs.declared.component.Components.TheDeep.{deep-Component}

component_depth : (fs : List Component) → most deep-Component fs ≤ depth (tree_of fs)
component_depth [] = omega arith
component_depth (f ∷ fs) = omega (arith, component_depth fs)

pub below_depth : (fs : List Component) → max (most deep-Component fs) 0 ≤ depth (tree_of fs)
below_depth fs = omega (arith, component_depth fs)
