-- Which vCards a filter matches (RFC 6352 section 10.5).
use Rattle.std.specs.Prelude.{◌++◌, ◌∷◌, ℕ, List, [], map, Bool, true, false, not, Option, None, Some, if◌then◌else◌}
use Rattle.std.specs.Char.{to_ascii_uppercase}
use Rattle.std.specs.List.{list_any}
use Rattle.std.specs.Option.{option_map_or}
use Rattle.std.specs.Str.Lines.{lines}
use Rattle.dav_report.specs.Lines.{colon, value_of}
use Rattle.dav_report.specs.declared.carddav.property_filter.PropertyFilter.{PropertyFilter}
use Rattle.dav_report.specs.declared.filters.TextMatch.{TextMatch}
use Rattle.dav_matching.specs.Texts.{compares, comparison, folded, has, negated}
use Rattle.dav_matching.specs.declared.texts.Comparison.{Comparison}
use Rattle.dav_matching.specs.declared.texts.Comparison.TheVariants.{Equals, StartsWith, EndsWith, Contains}

-- on some line a value stands behind the first colon that passes the test
abbrev pub some_value : (List ℕ → Bool) → List ℕ → Bool
some_value test text = list_any (λ line. option_map_or test (value_of line) false) (lines text)

-- The whole text has the part; or else on some line a value has to do with it what the comparison asks.
abbrev pub card_compares : Comparison → List ℕ → List ℕ → Bool
card_compares Contains part text = has part text
card_compares Equals part text = some_value (compares Equals part) text
card_compares StartsWith part text = some_value (compares StartsWith part) text
card_compares EndsWith part text = some_value (compares EndsWith part) text

-- a text match compares the whole text without regard to case, and negates where that is asked
abbrev pub text_passes : Option TextMatch → List ℕ → Bool
text_passes None text = true
text_passes (Some m) text =
    negated m.negate_condition (card_compares (comparison m.match_type) (folded m.text) (folded text))

-- a name in ASCII capitals, and a colon behind it
abbrev pub defining : List ℕ → List ℕ
defining name = map to_ascii_uppercase name ++ colon ∷ []

-- a vCard: every one without a filter, and else one that lacks the property, or whose text is as the filter asks
abbrev pub address_passes : Option PropertyFilter → List ℕ → Bool
address_passes None text = true
address_passes (Some filter) text =
    if filter.is_not_defined then not (has (defining filter.name) text) else text_passes filter.text_match text
