-- Names in which nothing is escaped are their own text.
use Rattle.std.proofs.Common.{◌≡◌, ℕ, ◌<◌, ◌≤◌, ◌==◌, ◌||◌, Bool, true, false, List, [], ◌∷◌, ◌++◌, ◌⊎◌, Option, None, codes, refl, sym, ap, ap₂, ◌∙◌, arith, IsUtf8, inl, inr}
use Rattle.std.specs.List.{list_any}
use Rattle.std.specs.Str.{chars}
use Rattle.std.proofs.lemmas.Bool.{cases_lt}
use Rattle.std.proofs.lemmas.Bool.Decides.{nat_tests}
use Rattle.std.proofs.lemmas.Str.{encodes-chars}
use Rattle.std.proofs.lemmas.List.Folds.{list_any-append}
use lib.Utf8.{encode, encodes}
use Rattle.htmlescape.specs.declared.alphabet.Alphabet.TheVariants.{Minimal}
use Rattle.htmlescape.specs.Escapes.{encoded, escaped, minimal_entity, or_else}
use Rattle.htmlescape.proofs.Utf8.{encode_one}
use Rattle.dav_page.specs.Index.{name_text}

-- whether an entity stands for a byte, and whether one stands for any of these
abbrev is_escaped : ℕ → Bool
is_escaped b = list_any (λ m. b == m) (codes "\"&'<>")

abbrev has_escaped : List ℕ → Bool
has_escaped bytes = list_any is_escaped bytes

-- no part of what has none has one
neither : (a b : Bool) → a || b ≡ false → (a ≡ false) × (b ≡ false)
neither false false e = (refl, refl)
neither false true e = (cc, cc)
neither true b e = (cc, cc)

no_entity : (c : ℕ) → is_escaped c ≡ false → minimal_entity c ≡ None
unfolding minimal_entity
no_entity c e = grind (arith, nat_tests)

high_entity : (c : ℕ) → 128 ≤ c → minimal_entity c ≡ None
unfolding minimal_entity
high_entity c h = grind (arith, nat_tests)

-- A character of which no byte is escaped isn't either.
bare_entity : (c : ℕ) → has_escaped (encode c) ≡ false → minimal_entity c ≡ None
bare_entity c e = by_size (cases_lt c 128)
  where
    by_size : (c < 128) ⊎ (128 ≤ c) → minimal_entity c ≡ None
    by_size (inl low) = no_entity c ((neither (is_escaped c) false (ap has_escaped (sym (encode_one c low)) ∙ e)).0)
    by_size (inr high) = high_entity c high

bare_character : (c : ℕ) → has_escaped (encode c) ≡ false → escaped Minimal c ≡ c ∷ []
unfolding escaped
bare_character c e = ap (λ o. or_else o (c ∷ [])) (bare_entity c e)

bare_characters : (text : List ℕ) → has_escaped (encodes text) ≡ false → encoded Minimal text ≡ text
bare_characters [] e = refl
bare_characters (c ∷ text) e =
    let apart = neither (has_escaped (encode c)) (has_escaped (encodes text)) (sym (list_any-append is_escaped (encode c) (encodes text)) ∙ e) in
    ap₂ (λ front rest. front ++ rest) (bare_character c apart.0) (bare_characters text apart.1)

-- A name of which no byte is escaped is its own text.
pub bare_text : (name : List ℕ) → IsUtf8 name → list_any (λ b. list_any (λ m. b == m) (codes "\"&'<>")) name ≡ false → name_text name ≡ name
bare_text name utf8 e =
    let same = encodes-chars name utf8 in
    ap encodes (bare_characters (chars name) (ap has_escaped same ∙ e)) ∙ same
