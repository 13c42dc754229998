-- The measure of filters that are let go.
use Rattle.std.proofs.Common.{◌+◌, ◌*◌, ◌≤◌, List, [], ◌∷◌, arith}
use denote.Param.Weighed.{most}
use Rattle.dav_report.specs.Filters.{filters_depth}
use Rattle.dav_report.specs.FilterLists.{filters_of}
use Rattle.dav_report.specs.declared.caldav.component_filter.ComponentFilter.{ComponentFilter}
use Rattle.dav_report.specs.declared.caldav.component_filter.ComponentFilters.TheDeep.{size-ComponentFilter}

pub filters_size : (fs : List ComponentFilter) → most size-ComponentFilter fs ≤ 2 * filters_depth (filters_of fs) + 1
filters_size [] = omega arith
filters_size (f ∷ fs) = omega (arith, filters_size fs)
