-- How a proof tells filters apart.
use Rattle.std.specs.Prelude.{ℕ, Bool, List, Option, refl}
use Rattle.std.specs.Coded.{Coded, code_by, coded×, coded_bool, coded_list, coded_option}
use Rattle.dav_report.specs.Filters.{Asked, Filters}
use Rattle.dav_calendar.specs.EventsTellNested.{nested_code}
use Rattle.dav_calendar.specs.TreeCodes.{text_code}
use Rattle.dav_report.specs.declared.filters.TextMatch.{TextMatch}
use Rattle.dav_report.specs.declared.filters.ParameterFilter.{ParameterFilter}
use Rattle.dav_report.specs.declared.caldav.property_filter.TimeRange.{TimeRange}
use Rattle.dav_report.specs.declared.caldav.property_filter.PropertyFilter.{PropertyFilter}

abbrev pub maybe_code : Coded (Option (List ℕ))
maybe_code = coded_option text_code

abbrev pub match_code : Coded TextMatch
match_code =
    code_by (List ℕ × (Option (List ℕ) × (Bool × Option (List ℕ))))
    (coded× text_code (coded× maybe_code (coded× coded_bool maybe_code)))
    (λ m. (m.text, (m.collation, (m.negate_condition, m.match_type))))
    (λ p. record { text = p.0; collation = p.1.0; negate_condition = p.1.1.0; match_type = p.1.1.1 }) (λ _. refl)

abbrev pub param_code : Coded ParameterFilter
param_code =
    code_by (List ℕ × (Bool × Option TextMatch)) (coded× text_code (coded× coded_bool (coded_option match_code)))
    (λ f. (f.name, (f.is_not_defined, f.text_match)))
    (λ p. record { name = p.0; is_not_defined = p.1.0; text_match = p.1.1 }) (λ _. refl)

abbrev pub range_code : Coded TimeRange
range_code =
    code_by (Option (List ℕ) × Option (List ℕ)) (coded× maybe_code maybe_code) (λ r. (r.start, r.end))
    (λ p. record { start = p.0; end = p.1 }) (λ _. refl)

abbrev pub prop_code : Coded PropertyFilter
prop_code =
    code_by (List ℕ × (Bool × (Option TextMatch × (Option TimeRange × List ParameterFilter))))
    (coded× text_code (coded× coded_bool
    (coded× (coded_option match_code) (coded× (coded_option range_code) (coded_list param_code)))))
    (λ f. (f.name, (f.is_not_defined, (f.text_match, (f.time_range, f.param_filters)))))
    (λ p. record {
      name = p.0;
      is_not_defined = p.1.0;
      text_match = p.1.1.0;
      time_range = p.1.1.1.0;
      param_filters = p.1.1.1.1;
    }) (λ _. refl)

abbrev pub asked_code : Coded Asked
asked_code =
    code_by (List ℕ × (Bool × (Option TimeRange × List PropertyFilter)))
    (coded× text_code (coded× coded_bool (coded× (coded_option range_code) (coded_list prop_code))))
    (λ a. (a.name, (a.is_not_defined, (a.time_range, a.prop_filters))))
    (λ p. record { name = p.0; is_not_defined = p.1.0; time_range = p.1.1.0; prop_filters = p.1.1.1 }) (λ _. refl)

abbrev pub filters_code : Coded Filters
filters_code = nested_code asked_code
