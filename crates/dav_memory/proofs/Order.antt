-- The order of names, and names among others.
use Rattle.std.proofs.Common.{◌≡◌, Bool, true, false, not, ◌&&◌, ◌||◌, List, [], ◌∷◌, ◌++◌, Option, Some, None, if◌then◌else◌, refl, sym, ap, subst, ◌∙◌, inl, inr, ◌⊎◌, Ordering, Less, Equal, Greater}
use Rattle.std.specs.Cmp.Lexicographic.{slice_cmp, nat_list_cmp_total}
use Rattle.std.specs.Ordering.{nat_cmp, is_lt, is_eq, ordering_reverse}
use Rattle.std.proofs.lemmas.Map.Text.{is_eq-slice_cmp}
use Rattle.std.specs.List.{list_any}
use Rattle.std.proofs.lemmas.Bool.{true≢false, or_cases}
use Rattle.std.proofs.lemmas.Cmp.{tied_itself}
use Rattle.dav_io.proofs.Cases.{less_is}
use Rattle.dav_memory.specs.Trees.{Name, same_name, is_less}
use Rattle.dav_memory.proofs.Keys.{name_decides}

-- ---- the order of names

exact : (a b : Name) → slice_cmp nat_cmp a b ≡ Equal → a ≡ b
exact a b h = (name_decides a b).0 (sym (is_eq-slice_cmp a b) ∙ ap is_eq h)

pub less_itself : (a : Name) → is_less a a ≡ false
less_itself a = ap is_lt (tied_itself nat_list_cmp_total a)

pub less_trans : (a b c : Name) → is_less a b ≡ true → is_less b c ≡ true → is_less a c ≡ true
less_trans a b c p q = ap is_lt (nat_list_cmp_total.trans a b c (less_is _ p) (less_is _ q))

pub less_other : (a b : Name) → is_less a b ≡ false → (a ≡ b) ⊎ (is_less b a ≡ true)
less_other a b h = by_order (slice_cmp nat_cmp a b) refl
  where
    by_order : (o : Ordering) → slice_cmp nat_cmp a b ≡ o → (a ≡ b) ⊎ (is_less b a ≡ true)
    by_order Less e = absurd (true≢false (sym (ap is_lt e) ∙ h))
    by_order Equal e = inl (exact a b e)
    by_order Greater e = inr (ap is_lt (nat_list_cmp_total.antisymm b a ∙ ap ordering_reverse e))

pub any_front : (x : Name) (ns : List Name) → list_any (same_name x) (x ∷ ns) ≡ true
any_front x ns = ap (λ b. b || list_any (same_name x) ns) ((name_decides x x).1 refl)

pub any_cases : (x n : Name) (ns : List Name) → list_any (same_name x) (n ∷ ns) ≡ true → (x ≡ n) ⊎ (list_any (same_name x) ns ≡ true)
any_cases x n ns h = elim (or_cases (same_name x n) (list_any (same_name x) ns) h) [ inl t ↦ inl ((name_decides x n).0 t) | inr t ↦ inr t ]

pub any-push : (x n : Name) (ns : List Name) → list_any (same_name x) (ns ++ n ∷ []) ≡ (same_name x n || list_any (same_name x) ns)
any-push x n [] = refl
any-push x n (m ∷ ns) = ap (λ b. same_name x m || b) (any-push x n ns) ∙ swap (same_name x m) (same_name x n) (list_any (same_name x) ns)
  where
    swap : (a b c : Bool) → (a || (b || c)) ≡ (b || (a || c))
    swap true true c = refl
    swap true false c = refl
    swap false b c = refl
