-- Which calendar texts a filter matches (RFC 4791 section 9.7.1).
use Rattle.std.specs.Prelude.{◌==◌, ◌&&◌, ◌||◌, ℕ, Bool, true, false, not, List, length, Option, None, Some, if◌then◌else◌}
use Rattle.std.specs.List.{list_all}
use Rattle.std.specs.Option.{option_map_or}
use Rattle.std.specs.Str.{str_eq_ignore_ascii_case}
use Rattle.dav_calendar.specs.Overlaps.{overlaps}
use Rattle.dav_calendar.specs.Reading.{components}
use Rattle.dav_calendar.specs.Trees.{Told, Tree, bare, and_component}
use Rattle.dav_report.specs.Filters.{Asked, Filters, no_filters, and_filter}
use Rattle.dav_report.specs.FilterLists.{asked_by}
use Rattle.dav_report.specs.declared.caldav.component_filter.ComponentFilter.{ComponentFilter}
use Rattle.dav_report.specs.declared.caldav.property_filter.TimeRange.{TimeRange}
use Rattle.dav_matching.specs.Properties.{bound, property_passes}

-- some component passes, which is judged by what it says and by the components in it
abbrev pub some_component : (Told → Tree → Bool) → Tree → Bool
some_component test bare = false
some_component test (and_component told children others) = test told children || some_component test others

abbrev pub is_named : List ℕ → Told → Bool
is_named name told = str_eq_ignore_ascii_case told.name name

-- there is no range, or the component is at some time of it
abbrev pub told_in_range : Option TimeRange → Told → Bool
told_in_range None told = true
told_in_range (Some r) told = overlaps told (bound r.start) (bound r.end)

-- what a component is asked besides the filters in a filter: its name, its time and its properties
abbrev pub fits : Asked → Told → Bool
fits asked told =
    is_named asked.name told
    && (told_in_range asked.time_range told && list_all (property_passes told.properties) asked.prop_filters)

-- A filter asks that no component has its name; or that one has it, is as asked, and has in it what the filters in the
-- filter ask.
abbrev pub filter_passes : Asked → (Tree → Bool) → Tree → Bool
filter_passes asked inner components =
    if asked.is_not_defined then not (some_component (λ told children. is_named asked.name told) components)
    else some_component (λ told children. fits asked told && inner children) components

-- all filters pass, each over these components
abbrev pub all_pass : Filters → Tree → Bool
all_pass no_filters components = true
all_pass (and_filter asked inner others) components =
    filter_passes asked (λ children. all_pass inner children) components && all_pass others components

-- Every calendar text passes without a filter, and with one of the empty name; no other one passes that has no component
-- tree. The filter is judged over the components that stand by themselves.
abbrev pub calendar_passes : Option ComponentFilter → List ℕ → Bool
calendar_passes None text = true
calendar_passes (Some f) text =
    (length f.name == 0)
    || option_map_or (filter_passes (asked_by f) (λ children. all_pass f.comp_filters children)) (components text) false
