use Rattle.std.proofs.Common.{◌≡◌, ◌+◌}
use Rattle.dav_lock.specs.Trees.{forest_of}
use Rattle.dav_lock.proofs.Weights.{weight}
use Rattle.dav_report.specs.Calendars.{component_filters}
use Rattle.dav_report.proofs.FilterReading.{held, then_maybe, open_weight}
use Rattle.dav_report.proofs.calendar_parts.read_components.Given as goal

abbrev pub invariant-loop-node : goal.invariant-loop-node
invariant-loop-node l = held l.open.items (then_maybe l.done (component_filters (forest_of l.left))) ≡ component_filters l.children

abbrev pub decreases-loop-node : goal.decreases-loop-node
decreases-loop-node l = open_weight l.open.items + weight (forest_of l.left)
