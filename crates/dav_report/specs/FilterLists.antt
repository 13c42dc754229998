-- A list of filters as data.
use Rattle.std.specs.Prelude.{List}
use Rattle.dav_calendar.specs.Nested.{nested_of}
use Rattle.dav_report.specs.Filters.{Asked, Filters}
use Rattle.dav_report.specs.declared.caldav.component_filter.ComponentFilter.{ComponentFilter}

abbrev pub asked_by : ComponentFilter → Asked
asked_by f = record {
  name = f.name;
  is_not_defined = f.is_not_defined;
  time_range = f.time_range;
  prop_filters = f.prop_filters;
}

abbrev pub filters_in : ComponentFilter → Filters
filters_in f = f.comp_filters

abbrev pub filters_of : List ComponentFilter → Filters
filters_of fs = nested_of asked_by filters_in fs
