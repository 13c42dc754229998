-- A part that stands in a text.
use Rattle.std.proofs.Common.{◌≡◌, ℕ, ◌++◌, List, [], ◌∷◌, length, drop, Bool, true, refl, ap, inl, inr, nat_eq, ◌↔◌}
use Rattle.std.specs.List.{starts_with}
use Rattle.std.specs.Str.Iter.{HasSubslice}
use Rattle.std.proofs.lemmas.Bool.Decides.{Decides-eqb}
use Rattle.std.proofs.lemmas.Slice.Eq.{starts_is}
use Rattle.dav_matching.specs.Texts.{has}
use Rattle.std.proofs.lemmas.Bool.{or_cases, or_left, or_right}
use Rattle.dav_io.proofs.Cases.{same_tests}

starts_here : (part text : List ℕ) → starts_with nat_eq text part ≡ true → HasSubslice text part
starts_here part text e = ([], drop (length part) text, (starts_is Decides-eqb text part (starts_with nat_eq text part) refl).0 e)

at_front : (part text rest : List ℕ) → text ≡ part ++ rest → starts_with nat_eq text part ≡ true
at_front part text rest e = (starts_is Decides-eqb text part (starts_with nat_eq text part) refl).1 rest e

one_more : (b : ℕ) (part text : List ℕ) → HasSubslice text part → HasSubslice (b ∷ text) part
one_more b part text (front, back, e) = (b ∷ front, back, ap (λ t. b ∷ t) e)

pub stands : (part text : List ℕ) → has part text ≡ true → HasSubslice text part
stands part [] e = starts_here part [] e
stands part (b ∷ text) e = elim (or_cases (starts_with nat_eq (b ∷ text) part) (has part text) e) [
  | inl here ↦ starts_here part (b ∷ text) here
  | inr later ↦ one_more b part text (stands part text later)
]

pub found : (part text front back : List ℕ) → text ≡ front ++ (part ++ back) → has part text ≡ true
found part [] [] back e = at_front part [] back e
found part [] (x ∷ front) back e = cc
found part (b ∷ text) [] back e = or_left _ _ (at_front part (b ∷ text) back e)
found part (b ∷ text) (x ∷ front) back e =
    let later : text ≡ front ++ (part ++ back) = cc in
    or_right (starts_with nat_eq (b ∷ text) part) (has part text) (found part text front back later)

-- what a search answers is whether the part stands there
pub has_is : (r : Bool) (part text : List ℕ) → (r ≡ true) ↔ HasSubslice text part → r ≡ has part text
has_is r part text h = same_tests r (has part text) (λ e. let s = h.0 e in found part text s.0 s.1 s.2) (λ e. h.1 (stands part text e))
