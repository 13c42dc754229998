-- Lists of which some elements are left out.
use Rattle.std.specs.Prelude.{◌≡◌, ◌⊎◌, List, [], ◌∷◌}

-- What is left of the second list, in its order, where some of its elements are left out: nothing; its first, and of the
-- others what is left; or what is left once its first is out.
abbrev pub IsPart : {A : Type 0} → List A → List A → Type 0
IsPart [] ys = Unit {0}
IsPart (x ∷ xs) [] = ⊥
IsPart (x ∷ xs) (y ∷ ys) = ((x ≡ y) × IsPart xs ys) ⊎ IsPart (x ∷ xs) ys
