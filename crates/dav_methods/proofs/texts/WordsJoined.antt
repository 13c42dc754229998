-- Words behind a separator, by what each gives.
use Rattle.std.proofs.Common.{◌≡◌, ◌++◌, List, [], ◌∷◌, map, refl, ap}
use Rattle.std.specs.List.{flat_map, join_by}

behind : {X A : Type 0} (f : X → List A) (separator : List A) (xs : List X) → flat_map (λ x. separator ++ f x) xs ≡ flat_map (λ y. separator ++ y) (map f xs)
behind f separator [] = refl
behind f separator (x ∷ xs) = ap (λ rest. (separator ++ f x) ++ rest) (behind f separator xs)

pub joined_words : {X A : Type 0} (f : X → List A) (separator : List A) (xs : List X) → join_by f separator xs ≡ join_by (λ word. word) separator (map f xs)
joined_words f separator [] = refl
joined_words f separator (x ∷ xs) = ap (λ rest. f x ++ rest) (behind f separator xs)
