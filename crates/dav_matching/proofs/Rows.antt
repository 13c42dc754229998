-- Worked rows of what filters match.
use Rattle.std.specs.Prelude.{◌≡◌, ◌∷◌, ◌++◌, ℕ, List, [], Option, None, Some, true, false, Bool, codes, refl}
use Rattle.dav_calendar.specs.Trees.{Told, Tree, bare, and_component}
use Rattle.dav_report.specs.Filters.{Asked, no_filters, and_filter}
use Rattle.dav_report.specs.declared.filters.TextMatch.{TextMatch}
use Rattle.dav_report.specs.declared.carddav.property_filter.PropertyFilter.{PropertyFilter}
use Rattle.dav_matching.specs.Calendars.{all_pass}
use Rattle.dav_matching.specs.Cards.{address_passes, card_compares}
use Rattle.dav_matching.specs.Properties.{value_in_range}
use Rattle.dav_matching.specs.Texts.{compares, comparison, has}

begins_before : has (codes "ab") (codes "aab") ≡ true
begins_before = refl

the_empty_part : has [] [] ≡ true
the_empty_part = refl

lacks : has (codes "ba") (codes "abb") ≡ false
lacks = refl

whole_value : compares (comparison (Some (codes "equals"))) (codes "x") (codes "xy") ≡ false
whole_value = refl

any_kind : compares (comparison (Some (codes "other"))) (codes "x") (codes "yx") ≡ true
any_kind = refl

-- the first colon of a line counts
equal_value : card_compares (comparison (Some (codes "equals"))) (codes "x") (codes "FN:xy") ≡ false
equal_value = refl

equal_later : card_compares (comparison (Some (codes "equals"))) (codes "b:c") (codes "FN:x" ++ 10 ∷ codes "a:b:c") ≡ true
equal_later = refl

begins_value : card_compares (comparison (Some (codes "starts-with"))) (codes "b") (codes "a;b:c:b") ≡ false
begins_value = refl

ends_value : card_compares (comparison (Some (codes "ends-with"))) (codes "b") (codes "a;b:c:b") ≡ true
ends_value = refl

no_value : card_compares (comparison (Some (codes "ends-with"))) [] (codes "FN") ≡ false
no_value = refl

property : Bool → Option TextMatch → PropertyFilter
property is_not_defined text = record { name = codes "x-y"; is_not_defined = is_not_defined; text_match = text; param_filters = [] }

-- is-not-defined comes before a comparison, and looks for the name in capitals
not_defined : address_passes (Some (property true None)) (codes "x-y:1") ≡ true
unfolding property
not_defined = refl

defined : address_passes (Some (property true None)) (codes "X-Y:1") ≡ false
unfolding property
defined = refl

-- what is no moment is in no range
no_moment : value_in_range (Some (record { start = None; end = None })) (codes "today") ≡ false
no_moment = refl

-- a component named A with one named B in it, and filters of the two
told : List ℕ → Told
told name = record { name = name; properties = [] }

nested : Tree
nested = and_component (told (codes "A")) (and_component (told (codes "B")) bare bare) bare

asked : Bool → List ℕ → Asked
asked is_not_defined name = record { name = name; is_not_defined = is_not_defined; time_range = None; prop_filters = [] }

inside : all_pass (and_filter (asked false (codes "a")) (and_filter (asked false (codes "b")) no_filters no_filters) no_filters) nested ≡ true
unfolding told nested asked
inside = refl

on_top : all_pass (and_filter (asked false (codes "B")) no_filters no_filters) nested ≡ false
unfolding told nested asked
on_top = refl

not_inside : all_pass (and_filter (asked false (codes "A")) (and_filter (asked true (codes "B")) no_filters no_filters) no_filters) nested ≡ false
unfolding told nested asked
not_inside = refl

not_on_top : all_pass (and_filter (asked true (codes "B")) no_filters no_filters) nested ≡ true
unfolding told nested asked
not_on_top = refl
