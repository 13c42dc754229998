use Rattle.std.proofs.Common.{◌≡◌, ◌+◌}
use Rattle.dav_report.specs.Filters.{joined}
use Rattle.dav_report.specs.FilterLists.{filters_of}
use Rattle.dav_calendar.proofs.NestedWaiting.{weight}
use Rattle.dav_report.proofs.FilterCopying.{held, open_weight}
use Rattle.dav_report.proofs.caldav.copying.copy_filters.Given as goal

abbrev pub invariant-loop-first : goal.invariant-loop-first
invariant-loop-first l = held l.open.items (joined l.done (filters_of l.left)) ≡ filters_of l.filters

abbrev pub decreases-loop-first : goal.decreases-loop-first
decreases-loop-first l = open_weight l.open.items + weight (filters_of l.left)
