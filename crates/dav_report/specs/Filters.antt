-- Filters of components, each of which may hold others.
use Rattle.std.specs.Prelude.{ℕ, Bool, List, Option}
use Rattle.dav_calendar.specs.Nested.{Nested}
pub use Rattle.dav_calendar.specs.Nested.{bare as no_filters, and_one as and_filter, depth as filters_depth, joined}
use Rattle.dav_report.specs.declared.caldav.property_filter.TimeRange.{TimeRange}
use Rattle.dav_report.specs.declared.caldav.property_filter.PropertyFilter.{PropertyFilter}

-- what a filter says besides the filters in it
pub record Asked : Type 0 where
  pub name : List ℕ
  pub is_not_defined : Bool
  pub time_range : Option TimeRange
  pub prop_filters : List PropertyFilter

-- filters in their order
abbrev pub Filters : Type 0
Filters = Nested Asked
