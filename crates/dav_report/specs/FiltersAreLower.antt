-- The filters in a filter nest less deep than those that hold it: the law that their measure cites, so it stands among
-- the definitions.
use Rattle.std.specs.Prelude.{◌≤◌, max, List, [], ◌∷◌}
use Rattle.std.proofs.Common.{arith}
use denote.Param.Weighed.{most}
use Rattle.dav_report.specs.Filters.{filters_depth}
use Rattle.dav_report.specs.FilterLists.{filters_of}
use Rattle.dav_report.specs.declared.caldav.component_filter.ComponentFilter.{ComponentFilter}
use Rattle.dav_report.specs.declared.caldav.component_filter.ComponentFilters.TheDeep.{deep-ComponentFilter}

filter_depth : (fs : List ComponentFilter) → most deep-ComponentFilter fs ≤ filters_depth (filters_of fs)
filter_depth [] = omega arith
filter_depth (f ∷ fs) = omega (arith, filter_depth fs)

pub below_depth : (fs : List ComponentFilter) → max (most deep-ComponentFilter fs) 0 ≤ filters_depth (filters_of fs)
below_depth fs = omega (arith, filter_depth fs)
