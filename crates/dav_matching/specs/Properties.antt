-- Which properties of a component a filter asks for (RFC 4791 section 9.7.2).
use Rattle.std.specs.Prelude.{◌&&◌, ℕ, List, Bool, true, false, not, Option, None, Some, option_map, option_and_then, if◌then◌else◌, ℤ}
use Rattle.std.specs.List.{list_any}
use Rattle.std.specs.Option.{option_map_or}
use Rattle.std.specs.Str.{str_eq_ignore_ascii_case}
use Rattle.dav_calendar.specs.Moments.{moment}
use Rattle.dav_calendar.specs.Overlaps.{is_within}
use Rattle.dav_calendar.specs.declared.moments.Moment.{Moment}
use Rattle.dav_calendar.specs.declared.property.Property.{Property}
use Rattle.dav_report.specs.declared.caldav.property_filter.PropertyFilter.{PropertyFilter}
use Rattle.dav_report.specs.declared.caldav.property_filter.TimeRange.{TimeRange}
use Rattle.dav_report.specs.declared.filters.TextMatch.{TextMatch}
use Rattle.dav_matching.specs.Texts.{compares, comparison, folded, negated}

-- the seconds of a bound of a range; one that can't be read counts as missing
abbrev pub bound : Option (List ℕ) → Option ℤ
bound text = option_map (λ (m : Moment). m.seconds) (option_and_then moment text)

-- there is no range, or the value is a moment in it
abbrev pub value_in_range : Option TimeRange → List ℕ → Bool
value_in_range None value = true
value_in_range (Some r) value =
    option_map_or (λ (m : Moment). is_within m.seconds (bound r.start) (bound r.end)) (moment value) false

-- there is no text match, or the value is to the searched text as it asks, both without regard to case
abbrev pub value_passes : Option TextMatch → List ℕ → Bool
value_passes None value = true
value_passes (Some m) value =
    negated m.negate_condition (compares (comparison m.match_type) (folded m.text) (folded value))

abbrev pub is_named : PropertyFilter → Property → Bool
is_named f p = str_eq_ignore_ascii_case p.name f.name

-- One and the same property has the name, a moment in the range, and the text that is asked for.
abbrev pub is_asked : PropertyFilter → Property → Bool
is_asked f p = is_named f p && (value_in_range f.time_range p.value && value_passes f.text_match p.value)

-- no property has the name; or one is as asked
abbrev pub property_passes : List Property → PropertyFilter → Bool
property_passes properties f =
    if f.is_not_defined then not (list_any (is_named f) properties) else list_any (is_asked f) properties
