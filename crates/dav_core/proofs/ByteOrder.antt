-- The order of names by their bytes: no name is below itself, and two of which neither is below the other are one.
use Rattle.std.proofs.Common.{◌≡◌, ◌==◌, ℕ, Bool, true, false, cond, nat_lt, List, [], ◌∷◌, refl, sym, ap, ◌∙◌, arith}
use Rattle.std.proofs.lemmas.Bool.Decides.{nat_tests}
use Rattle.std.proofs.lemmas.List.Sorted.{ranks_by}
use Rattle.std.specs.Cmp.{IsStrictWeakOrder}
use Rattle.std.specs.Cmp.Lexicographic.{nat_list_cmp_total, slice_cmp}
use Rattle.std.specs.Ordering.{is_lt, nat_cmp, ordering_then}
use Rattle.std.specs.declared.cmp.Ordering.TheVariants.{Less, Equal, Greater}

abbrev pub below : List ℕ → List ℕ → Bool
below x y = is_lt (slice_cmp nat_cmp x y)

pub order : IsStrictWeakOrder below
order = ranks_by nat_list_cmp_total (λ (x : List ℕ). x)

pub not_itself : (x : List ℕ) → below x x ≡ false
not_itself x = by_bool (below x x) refl
  where
    by_bool : (b : Bool) → below x x ≡ b → b ≡ false
    by_bool true e = let f : below x x ≡ false = order.one_way x x e in sym e ∙ f
    by_bool false e = refl

same_heads : (a b : ℕ) (x y : List ℕ) (l e m f : Bool) → nat_lt a b ≡ l → (a == b) ≡ e → nat_lt b a ≡ m → (b == a) ≡ f → (below x y ≡ false → below y x ≡ false → x ≡ y)
    → is_lt (ordering_then (cond l Less (cond e Equal Greater)) (slice_cmp nat_cmp x y)) ≡ false → is_lt (ordering_then (cond m Less (cond f Equal Greater)) (slice_cmp nat_cmp y x)) ≡ false
    → ◌≡◌ {A = List ℕ} (a ∷ x) (b ∷ y)
same_heads a b x y true e m f p q r s next first second = cc
same_heads a b x y false e true f p q r s next first second = cc
same_heads a b x y false true false true p q r s next first second =
    let same : a ≡ b = grind (arith, nat_tests) in
    ap (λ n. n ∷ x) same ∙ ap (λ z. b ∷ z) (next first second)
same_heads a b x y false false false f p q r s next first second = absurd (grind (arith, nat_tests))
same_heads a b x y false true false false p q r s next first second = absurd (grind (arith, nat_tests))

-- names of which neither is below the other are the same
pub same_name : (x y : List ℕ) → below x y ≡ false → below y x ≡ false → x ≡ y
same_name [] [] p q = refl
same_name [] (b ∷ y) p q = cc
same_name (a ∷ x) [] p q = cc
same_name (a ∷ x) (b ∷ y) p q = same_heads a b x y (nat_lt a b) (a == b) (nat_lt b a) (b == a) refl refl refl refl (same_name x y) p q
