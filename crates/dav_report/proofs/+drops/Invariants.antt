use Rattle.std.proofs.Common.{◌≤◌}
use Rattle.dav_report.specs.Filters.{filters_depth}
use Rattle.dav_report.specs.FilterLists.{filters_of}
use Rattle.dav_calendar.proofs.NestedWaiting.{weight}
use Rattle.dav_report.proofs.+drops.Given as goal

abbrev pub decreases-caldav::component_filter::ComponentFilters::drop : goal.decreases-caldav::component_filter::ComponentFilters::drop
decreases-caldav::component_filter::ComponentFilters::drop l = goal.size-caldav::component_filter::ComponentFilters::drop l

abbrev pub invariant-caldav::component_filter::ComponentFilters::drop-loop-filter : goal.invariant-caldav::component_filter::ComponentFilters::drop-loop-filter
invariant-caldav::component_filter::ComponentFilters::drop-loop-filter l = filters_depth (filters_of l.waiting.items) ≤ filters_depth l.fn.self

abbrev pub decreases-caldav::component_filter::ComponentFilters::drop-loop-filter : goal.decreases-caldav::component_filter::ComponentFilters::drop-loop-filter
decreases-caldav::component_filter::ComponentFilters::drop-loop-filter l = weight (filters_of l.waiting.items)
