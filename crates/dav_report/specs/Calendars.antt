-- Calendar requests (RFC 4791 sections 7.8 to 7.10 and 9.7 to 9.11): what an element asks for.
use Rattle.std.specs.Prelude.{◌&&◌, ℕ, Bool, true, cond, List, [], Option, Some, None, is_some, option_map, codes}
use Rattle.std.specs.List.{flat_map}
use Rattle.std.specs.Str.{bytes_eq}
use Rattle.dav_calendar.specs.Moments.{moment}
use Rattle.dav_lock.specs.Forests.{Forest, bare, then, element, text, comment, cdata, instruction}
use Rattle.dav_lock.specs.declared.element.Element.{Element}
use Rattle.dav_report.specs.Children.{named, first_of, last_of, attribute, each}
use Rattle.dav_report.specs.Requests.{is_not_defined, parameter_filter, properties, hrefs}
use Rattle.dav_report.specs.Filters.{Asked, Filters, no_filters, and_filter}
use Rattle.dav_report.specs.declared.filters.ParameterFilter.{ParameterFilter}
use Rattle.dav_report.specs.declared.caldav.property_filter.TimeRange.{TimeRange}
use Rattle.dav_report.specs.declared.caldav.property_filter.PropertyFilter.{PropertyFilter}
use Rattle.dav_report.specs.declared.caldav.component_filter.ComponentFilter.{ComponentFilter}
use Rattle.dav_report.specs.declared.caldav.query.CalendarQuery.{CalendarQuery}
use Rattle.dav_report.specs.declared.caldav.query.CalDavReportType.{CalDavReportType}
use Rattle.dav_report.specs.declared.caldav.query.CalDavReportType.TheVariants.{CalendarQuery as query, CalendarMultiget, FreeBusyQuery}
use Rattle.dav_report.specs.declared.caldav.resource.CalendarComponentType.{CalendarComponentType}
use Rattle.dav_report.specs.declared.caldav.resource.CalendarComponentType.TheVariants.{VEvent, VTodo, VJournal, VFreeBusy, VTimezone, VAlarm}

abbrev pub time_range : Element → TimeRange
time_range e = record { start = attribute (codes "start") e; end = attribute (codes "end") e }

-- a bound of a range is missing, or a moment
abbrev pub is_bound : Option (List ℕ) → Bool
is_bound None = true
is_bound (Some said) = is_some (moment said)

-- the range of a `time-range` in a filter; nothing where a bound can't be read
abbrev pub readable_range : Element → Option TimeRange
readable_range e =
    cond (is_bound (attribute (codes "start") e) && is_bound (attribute (codes "end") e)) (Some (time_range e)) None

-- those in a filter, of which the last counts; nothing where one is at fault
abbrev pub ranges : Forest → Option (List TimeRange)
ranges children = each readable_range (named (codes "time-range") children)

abbrev pub property_with : Option ParameterFilter → Option (List TimeRange) → Option PropertyFilter
property_with (Some asked) (Some ranges) = Some (record {
  name = asked.name;
  is_not_defined = asked.is_not_defined;
  text_match = asked.text_match;
  time_range = last_of ranges;
  param_filters = [];
})
property_with (Some asked) None = None
property_with None ranges = None

-- a filter of a property, which asks what one of a parameter may ask; nothing where it has no name, or a range in it is at
-- fault
abbrev pub property_filter : Element → Option PropertyFilter
property_filter e = property_with (parameter_filter e) (ranges e.children)

abbrev pub property_filters : Forest → Option (List PropertyFilter)
property_filters children = each property_filter (named (codes "prop-filter") children)

abbrev pub asked_with :
    Element → Option (List ℕ) → Option (List PropertyFilter) → Option (List TimeRange) → Option Asked
asked_with e (Some name) (Some filters) (Some ranges) = Some (record {
  name = name;
  is_not_defined = is_not_defined e.children;
  time_range = last_of ranges;
  prop_filters = filters;
})
asked_with e (Some name) (Some filters) None = None
asked_with e (Some name) None ranges = None
asked_with e None filters ranges = None

-- what a filter of a component asks besides the filters of components in it; nothing where it has no name, or a filter
-- of a property or a range in it is at fault
abbrev pub asked : Element → Option Asked
asked e = asked_with e (attribute (codes "name") e) (property_filters e.children) (ranges e.children)

abbrev pub filter_then : Option Asked → Option Filters → Option Filters → Option Filters
filter_then (Some a) (Some inner) (Some others) = Some (and_filter a inner others)
filter_then (Some a) (Some inner) None = None
filter_then (Some a) None others = None
filter_then None inner others = None

-- the filters of components in an element, with those in them; nothing where one at any depth is at fault
abbrev pub component_filters : Forest → Option Filters
component_filters bare = Some no_filters
component_filters (then (element prefix namespace namespaces name attributes children) rest) =
    cond (bytes_eq name (codes "comp-filter"))
    (filter_then (asked (record {
      prefix = prefix;
      namespace = namespace;
      namespaces = namespaces;
      name = name;
      attributes = attributes;
      children = children;
    })) (component_filters children) (component_filters rest))
    (component_filters rest)
component_filters (then (text t) rest) = component_filters rest
component_filters (then (comment t) rest) = component_filters rest
component_filters (then (cdata t) rest) = component_filters rest
component_filters (then (instruction t d) rest) = component_filters rest

abbrev pub component_with : Option Asked → Option Filters → Option ComponentFilter
component_with (Some a) (Some inner) = Some (record {
  name = a.name;
  is_not_defined = a.is_not_defined;
  time_range = a.time_range;
  prop_filters = a.prop_filters;
  comp_filters = inner;
})
component_with (Some a) None = None
component_with None inner = None

-- a filter of a component
abbrev pub component_filter : Element → Option ComponentFilter
component_filter e = component_with (asked e) (component_filters e.children)

-- the filters of components that stand in a `filter`
abbrev pub outer_filters : Forest → Option (List ComponentFilter)
outer_filters children = each component_filter (named (codes "comp-filter") children)

-- those in each `filter`
abbrev pub all_filters : Forest → Option (List (List ComponentFilter))
all_filters children = each (λ f. outer_filters f.children) (named (codes "filter") children)

-- a query keeps the last filter, and is refused where any is at fault
abbrev pub calendar_query : Forest → Option CalendarQuery
calendar_query children =
    option_map (λ filters. record {
      comp_filter = last_of (flat_map (λ fs. fs) filters);
      time_range = None;
      properties = properties children;
    }) (all_filters children)

-- a free-busy query needs its range
abbrev pub free_busy : Forest → Option TimeRange
free_busy children = option_map time_range (first_of (named (codes "time-range") children))

-- the report that an element asks for; nothing where the request is bad
abbrev pub calendar_report : Element → Option CalDavReportType
calendar_report root =
    cond (bytes_eq root.name (codes "calendar-query")) (option_map query (calendar_query root.children))
    (cond (bytes_eq root.name (codes "calendar-multiget")) (Some (CalendarMultiget (hrefs root.children)))
    (cond (bytes_eq root.name (codes "free-busy-query")) (option_map FreeBusyQuery (free_busy root.children)) None))

-- ---- the names of calendar components (RFC 5545 section 3.6)

abbrev pub component_name : CalendarComponentType → List ℕ
component_name VEvent = codes "VEVENT"
component_name VTodo = codes "VTODO"
component_name VJournal = codes "VJOURNAL"
component_name VFreeBusy = codes "VFREEBUSY"
component_name VTimezone = codes "VTIMEZONE"
component_name VAlarm = codes "VALARM"
