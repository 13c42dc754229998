-- How texts are compared (RFC 4791 section 9.7.5, RFC 6352 section 10.5.4). The collation is not looked at.
use Rattle.std.specs.Prelude.{◌∷◌, ◌||◌, ℕ, List, [], Bool, true, false, not, Option, None, Some, nat_eq, codes, chars, encode_utf8_all, if◌then◌else◌}
use Rattle.std.specs.List.{starts_with, ends_with}
use Rattle.std.specs.Str.{bytes_eq}
use Rattle.caseless.specs.Caseless.{default_case_fold}
use Rattle.dav_matching.specs.declared.texts.Comparison.{Comparison}
use Rattle.dav_matching.specs.declared.texts.Comparison.TheVariants.{Equals, StartsWith, EndsWith, Contains}

-- the part stands somewhere in the text
abbrev pub has : List ℕ → List ℕ → Bool
has part [] = starts_with nat_eq [] part
has part (b ∷ text) = starts_with nat_eq (b ∷ text) part || has part text

-- without regard to case, as Unicode's default full case folding has it
abbrev pub folded : List ℕ → List ℕ
folded text = encode_utf8_all (default_case_fold (chars text))

-- the comparison that a match type asks for; by default a text has to have the part
abbrev pub comparison : Option (List ℕ) → Comparison
comparison None = Contains
comparison (Some kind) =
    if bytes_eq kind (codes "equals") then Equals
    else (if bytes_eq kind (codes "starts-with") then StartsWith
    else (if bytes_eq kind (codes "ends-with") then EndsWith
    else Contains))

-- what a text has to do with the part that is looked for
abbrev pub compares : Comparison → List ℕ → List ℕ → Bool
compares Equals part text = bytes_eq text part
compares StartsWith part text = starts_with nat_eq text part
compares EndsWith part text = ends_with nat_eq text part
compares Contains part text = has part text

abbrev pub negated : Bool → Bool → Bool
negated true matches = not matches
negated false matches = matches
