-- The order of a copy: a directory comes before what lies below it.
-- Headline: `dir_order`.
use Rattle.std.proofs.Common.{◌≡◌, ◌++◌, ℕ, List, [], ◌∷◌, length, drop, true, refl, sym, subst, ◌∙◌, append-nil}
use Rattle.dav_core.specs.Path.{Names, is_front}
use Rattle.dav_core.proofs.Paths.{front_rest}
use Rattle.dav_model.specs.Walks.{dir_first}
use Rattle.dav_walks.proofs.removals.RemovalOrder.{Compared, IsByNames, IsOrder, below_apart, below_heads, earlier, equal, heads_compared, heads_then, later, names_compared, not_heads}

by_names : IsByNames dir_first
by_names a b x y = refl

dirs_compared : (p q : Names) → Compared dir_first p q
dirs_compared [] [] = equal refl
dirs_compared [] (b ∷ y) = earlier refl
dirs_compared (a ∷ x) [] = later refl
dirs_compared (a ∷ x) (b ∷ y) = heads_compared dir_first by_names a b x y (names_compared a b) (dirs_compared x y)

dir_then : (p q r : Names) → dir_first p q ≡ true → dir_first q r ≡ true → dir_first p r ≡ true
dir_then [] [] r e f = cc
dir_then [] (b ∷ y) [] e f = cc
dir_then [] (b ∷ y) (c ∷ z) e f = refl
dir_then (a ∷ x) [] r e f = cc
dir_then (a ∷ x) (b ∷ y) [] e f = cc
dir_then (a ∷ x) (b ∷ y) (c ∷ z) e f = heads_then dir_first by_names a b c x y z (dir_then x y z) e f

dir_itself : (p : Names) → dir_first p p ≡ true → ⊥
dir_itself [] e = cc
dir_itself (a ∷ x) e = not_heads dir_first by_names a x (dir_itself x) e

pub dir_order : IsOrder dir_first
dir_order = record { compared = dirs_compared; further = dir_then; itself = dir_itself }

above_first : (at : Names) (name : List ℕ) (names : Names) → dir_first at (at ++ name ∷ names) ≡ true
above_first [] name names = refl
above_first (a ∷ at) name names = below_heads dir_first by_names a at (at ++ name ∷ names) (above_first at name names)

-- A directory comes before all below it.
pub before_below : (p q : Names) → is_front p q ≡ true → (p ≡ q → ⊥) → dir_first p q ≡ true
before_below p q front other = by (drop (length p) q) (front_rest p q front)
  where
    by : (rest : Names) → q ≡ p ++ rest → dir_first p q ≡ true
    by [] e = absurd (other (sym (e ∙ append-nil p)))
    by (name ∷ names) e = subst (λ x. dir_first p x ≡ true) (sym e) (above_first p name names)

-- So nothing comes before what lies above it.
pub not_above : (p q : Names) → dir_first p q ≡ true → is_front q p ≡ true → ⊥
not_above p q e front = dir_itself p (dir_then p q p e (before_below q p front (λ same. dir_itself p (subst (λ x. dir_first p x ≡ true) same e))))

-- Of two paths of one length all at and below the first comes before all at and below the second.
pub dir_apart_first : (a b x y : Names) → length a ≡ length b → dir_first a b ≡ true → dir_first (a ++ x) (b ++ y) ≡ true
dir_apart_first a b x y long e = below_apart dir_first by_names refl a b x y long e
