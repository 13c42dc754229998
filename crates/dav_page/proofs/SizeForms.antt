-- Where a size is cut into its parts.
use Rattle.std.proofs.Common.{◌≡◌, ◌==◌, ℕ, Bool, true, false, List, [], ◌∷◌, ◌++◌, codes, refl, sym, ap, ap₂, ◌∙◌, subst, append_assoc, append-nil}
use Rattle.std.proofs.lemmas.Bool.{and_parts}
use Rattle.std.proofs.lemmas.Bool.Decides.{Decides-eqb}
use Rattle.htmlescape.specs.Grammar.{are_digits}
use Rattle.dav_page.specs.Cuts.{IsCut, IsFreeOf, IsNumber}
use Rattle.dav_page.specs.Pages.{IsAmount, is_fraction, is_unit}
use Rattle.dav_page.proofs.Between.{cut_once, not_free}
use Rattle.dav_page.proofs.Free.{are_digits_free, fraction_free, joined_free}

-- A number is cut at its point.
pub number_found : (text whole fraction : List ℕ) → IsCut 46 text whole fraction → are_digits 10 whole ≡ true → is_fraction fraction ≡ true
    → IsNumber text
number_found text whole fraction cut d f = record { whole = whole; fraction = fraction; spells = cut.spells; digits = d; point = f }

-- A number has no point, and is digits; or it is cut there.
module _ (P : Type 0) (text : List ℕ) (bare : are_digits 10 text ≡ true → IsFreeOf 46 text → P)
    (pointed : (whole fraction : List ℕ) → IsCut 46 text whole fraction → are_digits 10 whole ≡ true → is_fraction fraction ≡ true → P) where
  by_fraction : (whole fraction : List ℕ) → text ≡ whole ++ fraction → are_digits 10 whole ≡ true → is_fraction fraction ≡ true → P
  by_fraction whole [] e d f =
      let same : text ≡ whole = e ∙ append-nil whole in
      bare (subst (λ t. are_digits 10 t ≡ true) (sym same) d) (subst (IsFreeOf 46) (sym same) (are_digits_free 46 whole refl d))
  by_fraction whole (b ∷ digits) e d f =
      let is : b ≡ 46 = (Decides-eqb b 46).0 (and_parts (b == 46) _ f).0 in
      pointed whole (b ∷ digits)
      (record { more = digits; spells = e; free = are_digits_free 46 whole refl d; stops = ap (λ c. c ∷ digits) is }) d f

  pub number_cases : IsNumber text → P
  number_cases n = by_fraction n.whole n.fraction n.spells n.digits n.point

-- The parts of a number that was cut at its point.
pub number_parts : (text whole fraction : List ℕ) → IsCut 46 text whole fraction → IsNumber text
    → (are_digits 10 whole ≡ true) × (is_fraction fraction ≡ true)
number_parts text whole fraction cut n =
    number_cases ((are_digits 10 whole ≡ true) × (is_fraction fraction ≡ true)) text
    (λ d free. absurd (not_free 46 text whole cut.more (cut.spells ∙ ap (λ z. whole ++ z) cut.stops) free))
    (λ w f other d p.
    let once = cut_once 46 text whole w fraction f cut other in
    (subst (λ t. are_digits 10 t ≡ true) (sym once.0) d, subst (λ t. is_fraction t ≡ true) (sym once.1) p))
    n

-- What a reader answers of a number that was cut at its point.
pub number_by : (text whole fraction : List ℕ) (d f : Bool) → IsCut 46 text whole fraction → d ≡ are_digits 10 whole → f ≡ is_fraction fraction
    → d ≡ true → (f ≡ true → IsNumber text) × (IsNumber text → f ≡ true)
number_by text whole fraction d f cut ds fs is =
    (λ e. number_found text whole fraction cut (sym ds ∙ is) (sym fs ∙ e), λ n. fs ∙ (number_parts text whole fraction cut n).1)

pub number_not : (text whole fraction : List ℕ) (d : Bool) → IsCut 46 text whole fraction → d ≡ are_digits 10 whole → d ≡ false → IsNumber text → ⊥
number_not text whole fraction d cut ds isnt n =
    let bad : true ≡ false = sym (number_parts text whole fraction cut n).0 ∙ (sym ds ∙ isnt) in cc

-- A number, a blank and a unit are an amount.
pub amount_found : (text number rest unit : List ℕ) → IsCut 32 text number rest → rest ≡ codes " " ++ unit → IsNumber number
    → is_unit unit ≡ true → IsAmount text
amount_found text number rest unit cut e n u =
    record {
      whole = n.whole;
      fraction = n.fraction;
      unit = unit;
      spells = cut.spells ∙ (ap₂ (λ a b. a ++ b) n.spells e ∙ append_assoc n.whole n.fraction (32 ∷ unit));
      digits = n.digits;
      point = n.point;
      named = u;
    }

-- An amount is cut at its blank.
amount_cut : (text : List ℕ) (a : IsAmount text) → IsCut 32 text (a.whole ++ a.fraction) (32 ∷ a.unit)
amount_cut text a =
    record {
      more = a.unit;
      spells = a.spells ∙ sym (append_assoc a.whole a.fraction (32 ∷ a.unit));
      free = joined_free 32 a.whole a.fraction (are_digits_free 32 a.whole refl a.digits) (fraction_free 32 a.fraction refl refl a.point);
      stops = refl;
    }

pub amount_parts : (text number rest unit : List ℕ) → IsCut 32 text number rest → rest ≡ codes " " ++ unit → IsAmount text
    → IsNumber number × (is_unit unit ≡ true)
amount_parts text number rest unit cut e a =
    let once = cut_once 32 text number (a.whole ++ a.fraction) rest (32 ∷ a.unit) cut (amount_cut text a) in
    let same : 32 ∷ unit ≡ 32 ∷ a.unit = sym e ∙ once.1 in
    let unit_is : unit ≡ a.unit = cc in (
      record { whole = a.whole; fraction = a.fraction; spells = once.0; digits = a.digits; point = a.point },
      subst (λ t. is_unit t ≡ true) (sym unit_is) a.named,
    )

-- What a reader answers of an amount that was cut at its blank.
pub amount_by : (text number rest unit : List ℕ) (n u : Bool) → IsCut 32 text number rest → rest ≡ codes " " ++ unit
    → (n ≡ true → IsNumber number) × (IsNumber number → n ≡ true) → u ≡ is_unit unit → n ≡ true
    → (u ≡ true → IsAmount text) × (IsAmount text → u ≡ true)
amount_by text number rest unit n u cut at ns us is =
    (λ e. amount_found text number rest unit cut at (ns.0 is) (sym us ∙ e), λ a. us ∙ (amount_parts text number rest unit cut at a).1)

pub amount_not : (text number rest unit : List ℕ) (n : Bool) → IsCut 32 text number rest → rest ≡ codes " " ++ unit
    → (n ≡ true → IsNumber number) × (IsNumber number → n ≡ true) → n ≡ false → IsAmount text → ⊥
amount_not text number rest unit n cut at ns isnt a =
    let bad : true ≡ false = sym (ns.1 (amount_parts text number rest unit cut at a).0) ∙ isnt in cc
