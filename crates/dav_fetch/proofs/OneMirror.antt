-- A world has one mirror at most.
use Rattle.std.proofs.Common.{◌≡◌, inl, inr, List, [], ◌∷◌, map, Less, refl, sym, ap, subst, ◌∙◌}
use Rattle.std.specs.List.{AllByRecursion}
use Rattle.dav_core.specs.Path.{Names}
use Rattle.dav_core.specs.World.{World}
use Rattle.dav_fetch.specs.declared.copied.Copied.{Copied}
use Rattle.dav_fetch.specs.declared.copied.Kept.{Kept}
use Rattle.dav_fetch.specs.Copy.{IsOf, path_cmp}
use Rattle.dav_fetch.specs.Keeping.{AreAscending}
use Rattle.dav_fetch.specs.Mirroring.{IsMirror}
use Rattle.dav_fetch.proofs.Among.{to_map}
use Rattle.dav_fetch.proofs.Orders.{behind_first, first_below, turned}

below_of : (p q : Names) (qs : List Names) → AllByRecursion (λ x. path_cmp p x ≡ Less) qs → IsOf q qs → path_cmp p q ≡ Less
below_of p q [] all is = absurd is
below_of p q (x ∷ qs) all (inl same) = subst (λ y. path_cmp p y ≡ Less) (sym same) all.0
below_of p q (x ∷ qs) all (inr more) = below_of p q qs all.1 more

not_both : (p q : Names) → path_cmp p q ≡ Less → path_cmp q p ≡ Less → ⊥
not_both p q less more = let other = turned p q Less less in cc

-- In a list in order the first comes before each other.
first_of : {A : Type 0} (key : A → Names) (x y : A) (xs : List A) → AreAscending (map key (x ∷ xs)) → IsOf y xs → path_cmp (key x) (key y) ≡ Less
first_of key x y xs up is = below_of (key x) (key y) (map key xs) (first_below (key x) (map key xs) up) (to_map key y xs is)

heads : {A : Type 0} (key : A → Names) (x y : A) (xs ys : List A) → AreAscending (map key (x ∷ xs)) → AreAscending (map key (y ∷ ys)) → IsOf x (y ∷ ys) → IsOf y (x ∷ xs) → x ≡ y
heads key x y xs ys up also (inl same) there = same
heads key x y xs ys up also (inr more) (inl same) = sym same
heads key x y xs ys up also (inr more) (inr less) = absurd (not_both (key x) (key y) (first_of key x y xs up less) (first_of key y x ys also more))

behind : {A : Type 0} (key : A → Names) (x y z : A) (xs ys : List A) → AreAscending (map key (x ∷ xs)) → x ≡ y → IsOf z xs → IsOf z (y ∷ ys) → IsOf z ys
behind key x y z xs ys up first is (inr more) = more
behind key x y z xs ys up first is (inl same) =
    let itself = first_of key x x xs up (subst (λ a. IsOf a xs) (same ∙ sym first) is) in absurd (not_both (key x) (key x) itself itself)

-- Two lists in order of the same elements are one.
same_chain : {A : Type 0} (key : A → Names) (xs ys : List A) → AreAscending (map key xs) → AreAscending (map key ys) → ((a : A) → IsOf a xs → IsOf a ys) → ((a : A) → IsOf a ys → IsOf a xs) → xs ≡ ys
same_chain key [] [] up also to from = refl
same_chain key [] (y ∷ ys) up also to from = absurd (from y (inl refl))
same_chain key (x ∷ xs) [] up also to from = absurd (to x (inl refl))
same_chain key (x ∷ xs) (y ∷ ys) up also to from =
    let first : x ≡ y = heads key x y xs ys up also (to x (inl refl)) (from y (inl refl)) in
    ap (λ z. z ∷ xs) first
    ∙ ap (λ zs. y ∷ zs) (same_chain key xs ys (behind_first (key x) (map key xs) up) (behind_first (key y) (map key ys) also)
    (λ z is. behind key x y z xs ys up first is (to z (inr is))) (λ z is. behind key y x z ys xs also (sym first) is (from z (inr is))))

map_itself : (paths : List Names) → map (λ (p : Names). p) paths ≡ paths
map_itself [] = refl
map_itself (p ∷ paths) = ap (λ ps. p ∷ ps) (map_itself paths)

pub one_mirror : (w : World) (one other : Copied) → IsMirror w one → IsMirror w other → one ≡ other
one_mirror w one other a b =
    let dirs = same_chain (λ (p : Names). p) one.dirs other.dirs (subst AreAscending (sym (map_itself one.dirs)) a.order.dirs) (subst AreAscending (sym (map_itself other.dirs)) b.order.dirs)
    (λ path is. (b.dirs path).1 ((a.dirs path).0 is)) (λ path is. (a.dirs path).1 ((b.dirs path).0 is)) in
    let files = same_chain (λ (f : Kept). f.path) one.files other.files a.order.files b.order.files (λ f is. (b.files f).1 ((a.files f).0 is)) (λ f is. (a.files f).1 ((b.files f).0 is)) in
    ap (λ d. record one { dirs = d }) dirs ∙ ap (λ f. record one { dirs = other.dirs; files = f }) files
