-- Several slices, one after the other.
use Rattle.std.proofs.Common.{◌≡◌, ◌<◌, ◌≤◌, ◌+◌, ℕ, List, [], ◌∷◌, ◌++◌, length, take, get_or, sym, ap, ◌∙◌, append-nil}
use Rattle.std.proofs.lemmas.List.{take_more, map-append}
use Rattle.std.proofs.lemmas.Grind.{flat_map-append}
use Rattle.std.specs.List.{flat_map}
use Rattle.dav_model.specs.declared.ranges.Slice.{Slice}
use Rattle.dav_model.specs.Bodies.{Part}
use Rattle.dav_model.specs.Head.{last_boundary, several_parts, two_parts}
use Rattle.dav_get.specs.declared.part.BodyPart.{BodyPart}
use Rattle.dav_get.specs.declared.part.BodyPart.TheVariants.{Text}
use Rattle.dav_get.specs.Bodies.{parts_of}

one_of : (f : Slice → List Part) (x : Slice) → flat_map f (x ∷ []) ≡ f x
one_of f x = append-nil (f x)

-- one slice more
pub several_more : (f : Slice → List Part) (old new : List Part) (xs : List Slice) (i : ℕ) (d : Slice) → i < length xs
    → old ≡ flat_map f (take i xs) → new ≡ old ++ f (get_or xs i d) → new ≡ flat_map f (take (i + 1) xs)
several_more f old new xs i d lt so_far e =
    e ∙ ap (λ z. z ++ f (get_or xs i d)) so_far
    ∙ sym (ap (flat_map f) (take_more xs i d lt) ∙ flat_map-append f (take i xs) (get_or xs i d ∷ []) ∙ ap (λ z. flat_map f (take i xs) ++ z) (one_of f (get_or xs i d)))

-- the last boundary behind all slices
pub several_end : (kind : List ℕ) (number len i : ℕ) (xs : List Slice) (old new : List BodyPart) → length xs ≤ i
    → parts_of number old ≡ flat_map (two_parts kind number len) (take i xs) → new ≡ old ++ Text last_boundary ∷ [] → take i xs ≡ xs
    → parts_of number new ≡ several_parts kind number len xs
several_end kind number len i xs old new over so_far e all =
    ap (parts_of number) e ∙ map-append _ old (Text last_boundary ∷ []) ∙ ap (λ z. z ++ parts_of number (Text last_boundary ∷ [])) (so_far ∙ ap (flat_map (two_parts kind number len)) all)
