-- What a text of the entity grammar stands for is characters.
use Rattle.std.proofs.Common.{◌≡◌, ◌==◌, ◌&&◌, ℕ, Bool, true, false, cond, List, [], ◌∷◌, ◌++◌, map, Some, None, refl, sym, ap, ap₂, ◌∙◌, subst, IsUtf8}
use lib.Utf8.{scalar, scalars}
use Rattle.std.specs.List.{flat_map}
use Rattle.std.specs.Str.{chars}
use Rattle.std.specs.Str.Parse.{digits_value}
use Rattle.std.proofs.lemmas.Bool.{and_parts}
use Rattle.std.proofs.lemmas.Str.{chars-encodes, is_utf8-from_IsUtf8, scalars-chars}
use Rattle.htmlescape.specs.Grammar.{IsText, Item, are_digits, meaning, numbered, spelled}
use Rattle.htmlescape.specs.Grammar.Item.{Plain, Name, Decimal, Hexadecimal}
use Rattle.htmlescape.specs.Decoding.{IsDecoded}
use Rattle.htmlescape.proofs.Known.{named_scalar}
use Rattle.dav_page.specs.Cuts.{Spells}

numbered_scalar : (base : ℕ) (ds : List ℕ) (c : ℕ) → numbered base ds ≡ Some c → scalar c ≡ true
numbered_scalar base ds c e = by (are_digits base ds) (scalar (digits_value base ds)) refl e
  where
    by : (a s : Bool) → scalar (digits_value base ds) ≡ s → cond (a && (s && true)) (Some (digits_value base ds)) None ≡ Some c → scalar c ≡ true
    by true true f h = let same : digits_value base ds ≡ c = cc in ap scalar (sym same) ∙ f
    by true false f h = cc
    by false s f h = cc

item_scalar : (i : Item) (c : ℕ) → scalars (spelled i) ≡ true → meaning i ≡ Some c → scalar c ≡ true
item_scalar (Plain b) c s e = by (b == 38) e
  where
    by : (t : Bool) → cond t None (Some b) ≡ Some c → scalar c ≡ true
    by true h = cc
    by false h = let same : b ≡ c = cc in ap scalar (sym same) ∙ (and_parts (scalar b) true s).0
item_scalar (Name name) c s e = named_scalar name c e
item_scalar (Decimal ds) c s e = numbered_scalar 10 ds c e
item_scalar (Hexadecimal ds) c s e = numbered_scalar 16 ds c e

scalars_parts : (xs ys : List ℕ) → scalars (xs ++ ys) ≡ true → (scalars xs ≡ true) × (scalars ys ≡ true)
scalars_parts [] ys e = (refl, e)
scalars_parts (x ∷ xs) ys e =
    let p = and_parts (scalar x) (scalars (xs ++ ys)) e in
    let q = scalars_parts xs ys p.1 in
    (ap₂ (λ a b. a && b) p.0 q.0, q.1)

values_scalar : (items : List Item) (value : List ℕ) → scalars (flat_map spelled items) ≡ true → map meaning items ≡ map Some value
    → scalars value ≡ true
values_scalar [] [] s e = refl
values_scalar [] (v ∷ value) s e = cc
values_scalar (i ∷ items) [] s e = cc
values_scalar (i ∷ items) (v ∷ value) s e =
    let first : meaning i ≡ Some v = cc in
    let later : map meaning items ≡ map Some value = cc in
    let parts = scalars_parts (spelled i) (flat_map spelled items) s in
    ap₂ (λ a b. a && b) (item_scalar i v parts.0 first) (values_scalar items value parts.1 later)

-- What is decoded is what the text spells.
pub decoded_is : (text bytes : List ℕ) → IsUtf8 text → IsDecoded (chars text) bytes → Spells text bytes
decoded_is text bytes utf8 d =
    let value = d.0 in
    let valid : scalars value ≡ true = values_scalar d.1.items value (ap scalars (sym d.1.spells) ∙ scalars-chars text utf8) d.1.means in
    let back : chars bytes ≡ value = ap chars d.2 ∙ chars-encodes value valid in
    record {
      means = subst (IsText (chars text)) (sym back) d.1;
      utf8 = is_utf8-from_IsUtf8 bytes (value, (valid, sym d.2));
    }
