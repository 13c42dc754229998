-- What is left to do at things that are open, one in another: what stands behind each, and to close it.
use Rattle.std.proofs.Common.{◌≡◌, ℕ, ◌+◌, ◌-◌, ◌<◌, List, [], ◌∷◌, ◌++◌, take, ap, ◌∙◌, arith}

abbrev pub left_at : {X : Type 0} → (X → ℕ) → List X → ℕ
left_at behind [] = 0
left_at behind (o ∷ os) = 1 + behind o + left_at behind os

pub left_at-append : {X : Type 0} (behind : X → ℕ) (os : List X) (o : X) → left_at behind (os ++ o ∷ []) ≡ left_at behind os + (1 + behind o)
left_at-append behind [] o = omega arith
left_at-append behind (p ∷ os) o = omega (arith, left_at-append behind os o)

-- the innermost one is closed, where nothing is left in it
pub closes_less : {X : Type 0} (behind : X → ℕ) (os all : List X) (o : X) (inside : ℕ) → all ≡ os ++ o ∷ [] → inside ≡ 0
    → left_at behind os + behind o < left_at behind all + inside
closes_less behind os all o inside popped none = rw (popped, none) (omega (arith, left_at-append behind os o))

-- none is open where none is the last
pub none_open : {X : Type 0} (os new : List X) (n : ℕ) → n ≡ 0 → new ≡ take (n - 1) os → os ≡ new ++ [] → os ≡ []
none_open os new n z r i = i ∙ ap (λ ps. ps ++ []) (r ∙ ap (λ k. take (k - 1) os) z)
