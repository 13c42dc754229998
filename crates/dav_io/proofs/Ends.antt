-- Lists with one more element at the end.
use Rattle.std.specs.Prelude.{◌≡◌, List, [], ◌∷◌, ◌++◌, refl}
use Rattle.std.specs.List.{AllZip}

-- the last of two lists that are one
pub last_same : {A : Type 0} (xs ys : List A) (a b : A) → xs ++ a ∷ [] ≡ ys ++ b ∷ [] → a ≡ b
last_same [] [] a b e = cc
last_same [] (y ∷ []) a b e = cc
last_same [] (y ∷ z ∷ ys) a b e = cc
last_same (x ∷ []) [] a b e = cc
last_same (x ∷ z ∷ xs) [] a b e = cc
last_same (x ∷ xs) (y ∷ ys) a b e = last_same xs ys a b cc

-- one more, and its fellow
pub zip_push : {A B : Type 0} (R : A → B → Type 0) (xs : List A) (ys : List B) (x : A) (y : B) → AllZip R xs ys → R x y → AllZip R (xs ++ x ∷ []) (ys ++ y ∷ [])
zip_push R [] [] x y z r = (r, tt)
zip_push R [] (b ∷ ys) x y z r = absurd z
zip_push R (a ∷ xs) [] x y z r = absurd z
zip_push R (a ∷ xs) (b ∷ ys) x y z r = (z.0, zip_push R xs ys x y z.1 r)
