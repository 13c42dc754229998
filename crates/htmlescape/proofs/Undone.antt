-- What the encodings leave out, and that decoding undoes them.
use Rattle.std.proofs.Common.{◌≡◌, ◌<◌, ◌≤◌, ◌+◌, ◌*◌, ◌/◌, ◌%◌, ℕ, Bool, true, false, cond, not, ◌&&◌, ◌||◌, ◌==◌, List, [], ◌∷◌, ◌++◌, map, Option, Some, None, refl, sym, ◌∙◌, ap, inl, inr, arith, codes}
use lib.Utf8.{encodes, encode, scalars, scalar}
use Rattle.std.specs.List.{flat_map, list_all}
use Rattle.std.specs.Fmt.{digit_glyph}
use Rattle.std.specs.Char.{is_digit, digit_value}
use Rattle.std.specs.Str.Parse.{digits_value}
use Rattle.std.proofs.lemmas.Bool.{and_parts, cases_lt, eqb-true}
use Rattle.std.proofs.lemmas.Bool.Decides.{nat_tests}
use Rattle.std.proofs.lemmas.List.Folds.{list_all-append}
use Rattle.htmlescape.specs.declared.alphabet.Alphabet.{Alphabet}
use Rattle.htmlescape.specs.declared.alphabet.Alphabet.TheVariants.{Minimal, Attribute}
use Rattle.htmlescape.specs.Names.{entities, latin, symbols, special, named}
use Rattle.htmlescape.specs.Escapes.{minimal_entity, escaped, other, or_else, encoded, hex_escape, is_numbered, is_markup, is_harmless}
use Rattle.htmlescape.specs.Grammar.{Item, Plain, Name, Hexadecimal, spelled, meaning, IsText}
use Rattle.htmlescape.proofs.Escaping.{numbered_below}
use Rattle.htmlescape.proofs.Utf8.{encode_one, encode_two, encode_three, encode_four}

pick : (P : Option (List ℕ) → Type 0) (b : Bool) (x y : Option (List ℕ)) → (b ≡ true → P x) → (b ≡ false → P y) → P (cond b x y)
pick P true x y p q = p refl
pick P false x y p q = q refl

pick_text : (P : List ℕ → Type 0) (b : Bool) (x y : List ℕ) → (b ≡ true → P x) → (b ≡ false → P y) → P (cond b x y)
pick_text P true x y p q = p refl
pick_text P false x y p q = q refl

-- Every character passes.
passes_all : (p : ℕ → Bool) (a : Alphabet) → ((c : ℕ) → list_all p (escaped a c) ≡ true) → (text : List ℕ) → list_all p (encoded a text) ≡ true
passes_all p a h [] = refl
passes_all p a h (c ∷ cs) = list_all-append p (escaped a c) (encoded a cs) ∙ ap (λ b. b && list_all p (encoded a cs)) (h c) ∙ passes_all p a h cs

passes_bytes : (p : ℕ → Bool) → ((b : ℕ) → 128 ≤ b → p b ≡ true) → (c : ℕ) → p c ≡ true → list_all p (encode c) ≡ true
passes_bytes p wide c h = elim (cases_lt c 128) [
  | inl a ↦ ap (list_all p) (encode_one c a) ∙ ap (λ b. b && true) h
  | inr a ↦ elim (cases_lt c 2048) [
    | inl b ↦ ap (list_all p) (encode_two c a b) ∙ two (192 + c / 64) _ (omega arith) (omega arith)
    | inr b ↦ elim (cases_lt c 65536) [
      | inl d ↦ ap (list_all p) (encode_three c b d) ∙ three (224 + c / 4096) _ _ (omega arith) (omega arith) (omega arith)
      | inr d ↦ ap (list_all p) (encode_four c d) ∙ four (240 + c / 262144) _ _ _ (omega arith) (omega arith) (omega arith) (omega arith)
    ]
  ]
]
  where
    one : (x : ℕ) (xs : List ℕ) → 128 ≤ x → list_all p xs ≡ true → list_all p (x ∷ xs) ≡ true
    one x xs l t = ap (λ b. b && list_all p xs) (wide x l) ∙ t

    two : (x y : ℕ) → 128 ≤ x → 128 ≤ y → list_all p (x ∷ y ∷ []) ≡ true
    two x y a b = one x (y ∷ []) a (one y [] b refl)

    three : (x y z : ℕ) → 128 ≤ x → 128 ≤ y → 128 ≤ z → list_all p (x ∷ y ∷ z ∷ []) ≡ true
    three x y z a b d = one x (y ∷ z ∷ []) a (two y z b d)

    four : (x y z w : ℕ) → 128 ≤ x → 128 ≤ y → 128 ≤ z → 128 ≤ w → list_all p (x ∷ y ∷ z ∷ w ∷ []) ≡ true
    four x y z w a b d e = one x (y ∷ z ∷ w ∷ []) a (three y z w b d e)

pub all_bytes : (p : ℕ → Bool) → ((b : ℕ) → 128 ≤ b → p b ≡ true) → (text : List ℕ) → list_all p text ≡ true → list_all p (encodes text) ≡ true
all_bytes p wide [] h = refl
all_bytes p wide (c ∷ cs) h =
    let parts = and_parts (p c) (list_all p cs) h in
    list_all-append p (encode c) (encodes cs) ∙ ap (λ b. b && list_all p (encodes cs)) (passes_bytes p wide c parts.0) ∙ all_bytes p wide cs parts.1

-- The minimal encoding.
unmarked : (a b c d : Bool) → a ≡ false → b ≡ false → c ≡ false → d ≡ false → (not ((a || b) || (c || d)) && true) ≡ true
unmarked a b c d p q r s =
    ap (λ t. not ((t || b) || (c || d)) && true) p ∙ ap (λ t. not (t || (c || d)) && true) q ∙ ap (λ t. not (t || d) && true) r ∙ ap (λ t. not t && true) s

minimal_safe : (c : ℕ) → list_all (λ d. not (is_markup d)) (escaped Minimal c) ≡ true
unfolding escaped minimal_entity
minimal_safe c =
    let P : Option (List ℕ) → Type 0 = λ o. list_all (λ d. not (is_markup d)) (or_else o (c ∷ [])) ≡ true in
    pick P (c == 34) _ _ (λ _. refl) (λ e. pick P (c == 38) _ _ (λ _. refl) (λ _. pick P (c == 39) _ _ (λ _. refl) (λ f.
    pick P (c == 60) _ _ (λ _. refl) (λ g. pick P (c == 62) _ _ (λ _. refl) (λ h. unmarked (c == 34) (c == 39) (c == 60) (c == 62) e f g h)))))

pub minimal_characters : (text : List ℕ) → list_all (λ d. not (is_markup d)) (encoded Minimal text) ≡ true
minimal_characters text = passes_all (λ d. not (is_markup d)) Minimal minimal_safe text

unmarked_wide : (b : ℕ) → 128 ≤ b → not (is_markup b) ≡ true
unmarked_wide b h = grind (arith, nat_tests)

pub minimal_bytes : (text : List ℕ) → list_all (λ d. not (is_markup d)) (encodes (encoded Minimal text)) ≡ true
minimal_bytes text = all_bytes (λ d. not (is_markup d)) unmarked_wide (encoded Minimal text) (minimal_characters text)

-- The encoding for attributes.
digit_harmless : (d : ℕ) → d < 16 → is_harmless (digit_glyph true d) ≡ true
digit_harmless d h = grind (arith, nat_tests)

hex_harmless : (c : ℕ) → c < 256 → list_all is_harmless (hex_escape c) ≡ true
hex_harmless c h =
    ap (λ b. b && (is_harmless (digit_glyph true (c % 16)) && true)) (digit_harmless (c / 16) (omega arith)) ∙ ap (λ b. b && true) (digit_harmless (c % 16) (omega arith))

left_harmless : (c : ℕ) → is_numbered c ≡ false → is_harmless c ≡ true
left_harmless c e = grind (arith, nat_tests)

other_harmless : (c : ℕ) → list_all is_harmless (other Attribute c) ≡ true
other_harmless c =
    let P : List ℕ → Type 0 = λ t. list_all is_harmless t ≡ true in
    pick_text P (is_numbered c) (hex_escape c) (c ∷ []) (λ e. hex_harmless c (numbered_below c e)) (λ e. ap (λ b. b && true) (left_harmless c e))

attribute_safe : (c : ℕ) → list_all is_harmless (escaped Attribute c) ≡ true
unfolding escaped minimal_entity
attribute_safe c =
    let P : Option (List ℕ) → Type 0 = λ o. list_all is_harmless (or_else o (other Attribute c)) ≡ true in
    pick P (c == 34) _ _ (λ _. refl) (λ _. pick P (c == 38) _ _ (λ _. refl) (λ _. pick P (c == 39) _ _ (λ _. refl) (λ _.
    pick P (c == 60) _ _ (λ _. refl) (λ _. pick P (c == 62) _ _ (λ _. refl) (λ _. other_harmless c)))))

pub attribute_characters : (text : List ℕ) → list_all is_harmless (encoded Attribute text) ≡ true
attribute_characters text = passes_all is_harmless Attribute attribute_safe text

harmless_wide : (b : ℕ) → 128 ≤ b → is_harmless b ≡ true
harmless_wide b h = grind (arith, nat_tests)

pub attribute_bytes : (text : List ℕ) → list_all is_harmless (encodes (encoded Attribute text)) ≡ true
attribute_bytes text = all_bytes is_harmless harmless_wide (encoded Attribute text) (attribute_characters text)

-- Each character's encoding is an item that stands for it.
abbrev Undoes : ℕ → List ℕ → Type 0
Undoes c text = (item : Item) × (spelled item ≡ text) × (meaning item ≡ Some c)

found : (name : List ℕ) (c n : ℕ) → named name ≡ Some n → (c == n) ≡ true → Undoes c (38 ∷ (name ++ 59 ∷ []))
found name c n e h = (Name name, refl, e ∙ ap (λ (m : ℕ). Some m) (sym (eqb-true c n h)))

quot_is : named (codes "quot") ≡ Some 34
unfolding named entities latin symbols special
quot_is = refl

amp_is : named (codes "amp") ≡ Some 38
unfolding named entities latin symbols special
amp_is = refl

lt_is : named (codes "lt") ≡ Some 60
unfolding named entities latin symbols special
lt_is = refl

gt_is : named (codes "gt") ≡ Some 62
unfolding named entities latin symbols special
gt_is = refl

plain_is : (c : ℕ) → (c == 38) ≡ false → Undoes c (c ∷ [])
plain_is c e = (Plain c, refl, ap (λ b. cond b None (Some c)) e)

digit_is : (d : ℕ) → d < 16 → is_digit (digit_glyph true d) 16 ≡ true
digit_is d h = grind (arith, nat_tests)

value_is : (d : ℕ) → d < 16 → digit_value (digit_glyph true d) ≡ d
value_is d h = grind (arith, nat_tests)

two_digits : (c : ℕ) → (0 * 16 + c / 16) * 16 + c % 16 ≡ c
two_digits c = omega arith

hex_is : (c : ℕ) → c < 256 → scalar c ≡ true → Undoes c (hex_escape c)
hex_is c h s =
    let x = digit_glyph true (c / 16) in
    let y = digit_glyph true (c % 16) in
    let high : c / 16 < 16 = omega arith in
    let low : c % 16 < 16 = omega arith in
    let value : digits_value 16 (x ∷ y ∷ []) ≡ c =
    ap (λ v. (0 * 16 + v) * 16 + digit_value y) (value_is (c / 16) high) ∙ ap (λ v. (0 * 16 + c / 16) * 16 + v) (value_is (c % 16) low) ∙ two_digits c in (
      Hexadecimal (x ∷ y ∷ []),
      refl,
      ap (λ b. cond ((b && (is_digit y 16 && true)) && (scalar (digits_value 16 (x ∷ y ∷ [])) && true)) (Some (digits_value 16 (x ∷ y ∷ []))) None) (digit_is (c / 16) high)
          ∙ ap (λ b. cond ((b && true) && (scalar (digits_value 16 (x ∷ y ∷ [])) && true)) (Some (digits_value 16 (x ∷ y ∷ []))) None) (digit_is (c % 16) low)
          ∙ ap (λ v. cond (scalar v && true) (Some v) None) value ∙ ap (λ b. cond (b && true) (Some c) None) s,
    )

apostrophe_is : (c : ℕ) → (c == 39) ≡ true → Undoes c (codes "&#x27;")
apostrophe_is c e = (Hexadecimal (50 ∷ 55 ∷ []), refl, ap (λ (m : ℕ). Some m) (sym (eqb-true c 39 e)))

other_is : (a : Alphabet) (c : ℕ) → scalar c ≡ true → (c == 38) ≡ false → Undoes c (other a c)
other_is Minimal c s e = plain_is c e
other_is Attribute c s e =
    let P : List ℕ → Type 0 = λ t. Undoes c t in
    pick_text P (is_numbered c) (hex_escape c) (c ∷ []) (λ h. hex_is c (numbered_below c h) s) (λ h. plain_is c e)

item_is : (a : Alphabet) (c : ℕ) → scalar c ≡ true → Undoes c (escaped a c)
unfolding escaped minimal_entity
item_is a c s =
    let P : Option (List ℕ) → Type 0 = λ o. Undoes c (or_else o (other a c)) in
    pick P (c == 34) _ _ (found (codes "quot") c 34 quot_is) (λ _. pick P (c == 38) _ _ (found (codes "amp") c 38 amp_is) (λ e. pick P (c == 39) _ _ (apostrophe_is c) (λ _.
    pick P (c == 60) _ _ (found (codes "lt") c 60 lt_is) (λ _. pick P (c == 62) _ _ (found (codes "gt") c 62 gt_is) (λ _. other_is a c s e)))))

pub undone : (a : Alphabet) (text : List ℕ) → scalars text ≡ true → IsText (encoded a text) text
undone a [] s = record { items = []; spells = refl; means = refl }
undone a (c ∷ cs) s =
    let parts = and_parts (scalar c) (scalars cs) s in
    let rest = undone a cs parts.1 in
    let item = item_is a c parts.0 in
    record {
      items = item.0 ∷ rest.items;
      spells = ap (λ t. escaped a c ++ t) rest.spells ∙ ap (λ t. t ++ flat_map spelled rest.items) (sym item.1);
      means = ap (λ o. o ∷ map meaning rest.items) item.2 ∙ ap (λ t. Some c ∷ t) rest.means;
    }
