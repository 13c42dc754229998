-- Lists that are changed place by place.
use Rattle.std.proofs.Common.{zero, suc, ◌≡◌, ◌<◌, ◌+◌, ◌++◌, ◌∷◌, [], ℕ, List, length, map, take, drop, get_or, refl, sym, ap, ◌∙◌, arith, add-one}
use Rattle.std.proofs.Math.ListN.{set}

-- the first places are changed
abbrev pub mid : {X : Type 0} → (X → X) → ℕ → List X → List X
mid f i xs = map f (take i xs) ++ drop i xs

pub mid_get : {X : Type 0} (f : X → X) (xs : List X) (i : ℕ) (d : X) → i < length xs → get_or (mid f i xs) i d ≡ get_or xs i d
mid_get f [] i d lt = absurd (omega arith)
mid_get f (x ∷ xs) zero d lt = refl
mid_get f (x ∷ xs) (suc i) d lt = mid_get f xs i d (omega arith)

mid_set : {X : Type 0} (f : X → X) (xs : List X) (i : ℕ) (d : X) → i < length xs → set (mid f i xs) i (f (get_or xs i d)) ≡ mid f (suc i) xs
mid_set f [] i d lt = absurd (omega arith)
mid_set f (x ∷ xs) zero d lt = refl
mid_set f (x ∷ xs) (suc i) d lt = ap (λ ys. f x ∷ ys) (mid_set f xs i d (omega arith))

-- one place more, which was changed
pub mid_more : {X : Type 0} (f : X → X) (xs ys : List X) (i : ℕ) (x y : X) → i < length xs → ys ≡ mid f i xs → x ≡ get_or ys i x → y ≡ f x → set ys i y ≡ mid f (i + 1) xs
mid_more f xs ys i x y lt e at new =
    let here : x ≡ get_or xs i x = at ∙ ap (λ ys. get_or ys i x) e ∙ mid_get f xs i x lt in
    ap (λ zs. set zs i y) e ∙ ap (set (mid f i xs) i) (new ∙ ap f here) ∙ mid_set f xs i x lt ∙ ap (λ n. mid f n xs) (sym (add-one i))
