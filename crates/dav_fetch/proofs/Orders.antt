-- Paths in order, and what is kept at them.
use Rattle.std.proofs.Common.{◌≡◌, ◌⊎◌, inl, inr, ◌-◌, slice_get, true≢false, ◌<◌, ◌+◌, ◌++◌, ◌∷◌, [], ℕ, suc, zero, List, false, cond, Option, None, Some, Less, Equal, Greater, length, map, reverse, drop, refl, sym, ap, subst, ◌∙◌, arith, append_assoc, get_or}
use Rattle.std.specs.Cmp.{IsTotalOrder}
use Rattle.std.specs.Cmp.Lexicographic.{lists_total, lists_ties, nat_list_cmp_total, slice_cmp, texts_ties}
use Rattle.std.specs.List.{AllByRecursion}
use Rattle.std.specs.List.Sorted.{IsPermutation, IsSorted, IsStrictlySortedBy}
use Rattle.std.specs.Option.{option_to_list}
use Rattle.std.specs.Ordering.{is_eq, is_lt, nat_cmp, ordering_reverse}
use Rattle.std.specs.declared.cmp.Ordering.{Ordering}
use Rattle.std.proofs.lemmas.List.{length-append, reverse-append}
use Rattle.std.proofs.lemmas.List.Sorted.{All-permutation, IsPermutation-sym, ranks_by, sorted_far}
use Rattle.dav_core.specs.Path.{Names, same_names}
use Rattle.dav_core.proofs.Plain.{names_same}
use Rattle.dav_core.proofs.Elements.{in_either}
use Rattle.dav_fetch.specs.declared.copied.Kept.{Kept}
use Rattle.dav_fetch.specs.Copy.{IsOf, path_cmp}
use Rattle.dav_fetch.specs.Fetching.{IsOrdered, kept_at, kept_of}
use Rattle.dav_fetch.specs.Keeping.{AreAscending, AreInOrder, KeepsBehind, follows, with_next}

pub path_total : IsTotalOrder path_cmp
path_total = lists_total nat_list_cmp_total

pub same_by_order : (a b : Names) → same_names a b ≡ is_eq (path_cmp a b)
same_by_order a b = lists_ties (slice_cmp nat_cmp) texts_ties a b

pub turned : (a b : Names) (r : Ordering) → path_cmp a b ≡ r → path_cmp b a ≡ ordering_reverse r
turned a b r e = path_total.antisymm b a ∙ ap ordering_reverse e

pub less_differs : (a b : Names) → path_cmp a b ≡ Less → same_names b a ≡ false
less_differs a b e = same_by_order b a ∙ ap is_eq (turned a b Less e)

pub equal_is : (a b : Names) → path_cmp a b ≡ Equal → a ≡ b
equal_is a b e = names_same a b (same_by_order a b ∙ ap is_eq e)

-- ---- lists in order

pub first_below : (p : Names) (ps : List Names) → AreAscending (p ∷ ps) → AllByRecursion (λ q. path_cmp p q ≡ Less) ps
unfolding IsStrictlySortedBy
first_below p ps s = s.0

pub behind_first : (p : Names) (ps : List Names) → AreAscending (p ∷ ps) → AreAscending ps
unfolding IsStrictlySortedBy
behind_first p ps s = s.1

pub both_ascend : (p : Names) (ps : List Names) → AllByRecursion (λ q. path_cmp p q ≡ Less) ps → AreAscending ps → AreAscending (p ∷ ps)
unfolding IsStrictlySortedBy
both_ascend p ps b s = (b, s)

pub none_ascend : AreAscending []
unfolding IsStrictlySortedBy
none_ascend = tt

pub ascend_drop : (k : ℕ) (ps : List Names) → AreAscending ps → AreAscending (drop k ps)
ascend_drop zero ps s = s
ascend_drop (suc k) [] s = s
ascend_drop (suc k) (p ∷ ps) s = ascend_drop k ps (behind_first p ps s)

pub below_more : (p q : Names) (ps : List Names) → path_cmp p q ≡ Less → AllByRecursion (λ r. path_cmp q r ≡ Less) ps → AllByRecursion (λ r. path_cmp p r ≡ Less) ps
below_more p q [] l a = tt
below_more p q (r ∷ ps) l a = (path_total.trans p q r l a.0, below_more p q ps l a.1)

-- ---- what is kept

pub skipped : (q : Names) (f : Kept) (fs : List Kept) → same_names q f.path ≡ false → kept_at q (f ∷ fs) ≡ kept_at q fs
skipped q f fs e = ap (λ t. cond t (Some f) (kept_at q fs)) e

pub none_below : (p : Names) (fs : List Kept) → AllByRecursion (λ q. path_cmp p q ≡ Less) (map (λ (f : Kept). f.path) fs) → kept_at p fs ≡ None
none_below p [] a = refl
none_below p (f ∷ fs) a = skipped p f fs (same_by_order p f.path ∙ ap is_eq a.0) ∙ none_below p fs a.1

pub top_first : (all rest : List Kept) (f : Kept) → all ≡ rest ++ f ∷ [] → reverse all ≡ f ∷ reverse rest
top_first all rest f e = ap reverse e ∙ reverse-append rest (f ∷ [])

-- one that stands in front of the path is taken away
pub passed_at : (p : Names) (f : Kept) (fs : List Kept) → path_cmp f.path p ≡ Less → kept_at p (f ∷ fs) ≡ kept_at p fs
passed_at p f fs l = skipped p f fs (less_differs f.path p l)

pub passed_behind : (p : Names) (f : Kept) (fs : List Kept) → path_cmp f.path p ≡ Less → KeepsBehind p (f ∷ fs) fs
passed_behind p f fs l q later = sym (passed_at q f fs (path_total.trans f.path p q l later))

pub met_at : (p : Names) (f : Kept) (fs : List Kept) → path_cmp f.path p ≡ Equal → kept_at p (f ∷ fs) ≡ Some f
met_at p f fs e = ap (λ t. cond t (Some f) (kept_at p fs)) (same_by_order p f.path ∙ ap is_eq (turned f.path p Equal e))

pub met_behind : (p : Names) (f : Kept) (fs : List Kept) → path_cmp f.path p ≡ Equal → KeepsBehind p (f ∷ fs) fs
met_behind p f fs e q later = sym (passed_at q f fs (subst (λ a. path_cmp a q ≡ Less) (sym (equal_is f.path p e)) later))

pub beyond_at : (p : Names) (f : Kept) (fs : List Kept) → AreInOrder (f ∷ fs) → path_cmp f.path p ≡ Greater → kept_at p (f ∷ fs) ≡ None
beyond_at p f fs order g =
    let l = turned f.path p Greater g in
    none_below p (f ∷ fs) (l, below_more p f.path (map (λ (k : Kept). k.path) fs) l (first_below f.path (map (λ (k : Kept). k.path) fs) order))

pub behind_twice : (p : Names) (a b c : List Kept) → KeepsBehind p a b → KeepsBehind p b c → KeepsBehind p a c
behind_twice p a b c h k q later = k q later ∙ h q later

-- ---- what is kept at paths that are due

abbrev pub SameAt : List Kept → List Kept → List Names → Type 0
SameAt before after paths = AllByRecursion (λ q. kept_at q after ≡ kept_at q before) paths

pub same_at_all : (fs : List Kept) (paths : List Names) → SameAt fs fs paths
same_at_all fs [] = tt
same_at_all fs (p ∷ ps) = (refl, same_at_all fs ps)

pub same_behind : (p : Names) (old before after : List Kept) (ps : List Names) → AllByRecursion (λ q. path_cmp p q ≡ Less) ps → KeepsBehind p before after → SameAt old before ps → SameAt old after ps
same_behind p old before after [] a h s = tt
same_behind p old before after (q ∷ ps) a h s = (h q a.0 ∙ s.0, same_behind p old before after ps a.1 h s.1)

pub kept_same : (old after : List Kept) (ps : List Names) → SameAt old after ps → kept_of ps after ≡ kept_of ps old
kept_same old after [] s = refl
kept_same old after (p ∷ ps) s = ap (λ o. option_to_list o ++ kept_of ps after) s.0 ∙ ap (λ r. option_to_list (kept_at p old) ++ r) (kept_same old after ps s.1)

-- ---- a list in order grows

pub last_or : List Names → Names → Names
last_or [] d = d
last_or (p ∷ ps) d = last_or ps p

ascend_more : (ps : List Names) (p q : Names) → AreAscending (p ∷ ps) → path_cmp (last_or ps p) q ≡ Less → AllByRecursion (λ r. path_cmp p r ≡ Less) (ps ++ q ∷ []) × AreAscending (p ∷ (ps ++ q ∷ []))
unfolding last_or
ascend_more [] p q s l = ((l, tt), both_ascend p (q ∷ []) (l, tt) (both_ascend q [] tt none_ascend))
ascend_more (r ∷ ps) p q s l =
    let there = ascend_more ps r q (behind_first p (r ∷ ps) s) l in
    let below = (first_below p (r ∷ ps) s).0 in
    let all : AllByRecursion (λ x. path_cmp p x ≡ Less) (r ∷ (ps ++ q ∷ [])) = (below, below_more p r (ps ++ q ∷ []) below there.0) in
    (all, both_ascend p (r ∷ (ps ++ q ∷ [])) all there.1)

pub ascend_last : (front : List Names) (last q : Names) → AreAscending (front ++ last ∷ []) → path_cmp last q ≡ Less → AreAscending ((front ++ last ∷ []) ++ q ∷ [])
unfolding last_or
ascend_last [] last q s l = (ascend_more [] last q s l).1
ascend_last (p ∷ front) last q s l = (ascend_more (front ++ last ∷ []) p q s (subst (λ r. path_cmp r q ≡ Less) (sym (last_is front p last)) l)).1
  where
    last_is : (front : List Names) (p last : Names) → last_or (front ++ last ∷ []) p ≡ last
    last_is [] p last = refl
    last_is (r ∷ front) p last = last_is front r last

-- ---- one more of a sorted list

pub of_append : {A : Type 0} (a : A) (xs ys : List A) → IsOf a xs ⊎ IsOf a ys → IsOf a (xs ++ ys)
of_append a [] ys (inl is) = absurd is
of_append a [] ys (inr is) = is
of_append a (x ∷ xs) ys (inl (inl same)) = inl same
of_append a (x ∷ xs) ys (inl (inr more)) = inr (of_append a xs ys (inl more))
of_append a (x ∷ xs) ys (inr is) = inr (of_append a xs ys (inr is))

snoc_of : (l : List Names) → (l ≡ []) ⊎ ((front : List Names) × (last : Names) × (l ≡ front ++ last ∷ []))
snoc_of [] = inl refl
snoc_of (x ∷ l) = elim (snoc_of l) [
  | inl none ↦ inr ([], x, ap (λ z. x ∷ z) none)
  | inr some ↦ inr (x ∷ some.0, some.1, ap (λ z. x ∷ z) some.2)
]

last_got : (front : List Names) (last : Names) → slice_get (front ++ last ∷ []) (length (front ++ last ∷ []) - 1) ≡ Some last
last_got front last =
    ap (λ n. slice_get (front ++ last ∷ []) n) (ap (λ n. n - 1) (length-append front (last ∷ [])) ∙ less_one (length front)) ∙ there front
  where
    less_one : (n : ℕ) → (n + 1) - 1 ≡ n
    less_one n = omega arith

    there : (front : List Names) → slice_get (front ++ last ∷ []) (length front) ≡ Some last
    there [] = refl
    there (x ∷ front) = there front

pub record IsOnce (once full : List Names) : Type 0 where
  pub order : AreAscending once
  pub from : (q : Names) → IsOf q once → IsOf q full
  pub all : (q : Names) → IsOf q full → IsOf q once

pub once_none : IsOnce [] []
once_none = record { order = none_ascend; from = λ q is. is; all = λ q is. is }

added_last : (once all : List Names) (path : Names) → AreAscending (once ++ path ∷ []) → IsOnce once all → IsOnce (once ++ path ∷ []) (all ++ path ∷ [])
added_last once all path up is = record {
  order = up;
  from = λ q here. of_append q all (path ∷ []) (elim (in_either q once (path ∷ []) here) [ inl old ↦ inl (is.from q old) | inr new ↦ inr new ]);
  all = λ q here. of_append q once (path ∷ []) (elim (in_either q all (path ∷ []) here) [ inl old ↦ inl (is.all q old) | inr new ↦ inr new ]);
}

stays_same : (once all : List Names) (path : Names) → IsOf path once → IsOnce once all → IsOnce once (all ++ path ∷ [])
stays_same once all path there is = record {
  order = is.order;
  from = λ q here. of_append q all (path ∷ []) (inl (is.from q here));
  all = λ q here. elim (in_either q all (path ∷ []) here) [
    | inl old ↦ is.all q old
    | inr new ↦ elim new [ inl same ↦ subst (λ x. IsOf x once) (sym same) there | inr none ↦ absurd none ]
  ];
}

pub once_more : (once all : List Names) (path : Names) → IsOnce once all → ((q : Names) → IsOf q all → path_cmp q path ≡ Greater → ⊥) → IsOnce (with_next path once) (all ++ path ∷ [])
once_more once all path is below = elim (snoc_of once) [
  | inl none ↦ subst (λ o. IsOnce o (all ++ path ∷ [])) (sym (ap (with_next path) none))
      (added_last [] all path (both_ascend path [] tt none_ascend) (subst (λ o. IsOnce o all) none is))
  | inr some ↦ by some.0 some.1 some.2 (path_cmp some.1 path) refl
]
  where
    by : (front : List Names) (last : Names) → once ≡ front ++ last ∷ [] → (o : Ordering) → path_cmp last path ≡ o → IsOnce (with_next path once) (all ++ path ∷ [])
    by front last parts o e =
        subst (λ t. IsOnce (cond t (once ++ path ∷ []) once) (all ++ path ∷ [])) (sym (ap (λ l. follows (slice_get l (length l - 1)) path) parts ∙ ap (λ x. follows x path) (last_got front last) ∙ ap is_lt e)) (order o e)
      where
        order : (o : Ordering) → path_cmp last path ≡ o → IsOnce (cond (is_lt o) (once ++ path ∷ []) once) (all ++ path ∷ [])
        order Less e = added_last once all path (subst (λ l. AreAscending (l ++ path ∷ [])) (sym parts) (ascend_last front last path (subst AreAscending parts is.order) e)) is
        order Equal e = stays_same once all path (subst (λ q. IsOf q once) (equal_is last path e) (subst (IsOf last) (sym parts) (of_append last front (last ∷ []) (inr (inl refl))))) is
        order Greater e = absurd (below last (is.from last (subst (IsOf last) (sym parts) (of_append last front (last ∷ []) (inr (inl refl))))) e)

pub place_of : {A : Type 0} (q : A) (l : List A) → IsOf q l → (i : ℕ) × (i < length l) × ((d : A) → get_or l i d ≡ q)
place_of q [] is = absurd is
place_of q (x ∷ l) (inl same) = (0, omega arith, λ d. sym same)
place_of q (x ∷ l) (inr more) = let at = place_of q l more in (suc at.0, omega (arith, at.1), λ d. at.2 d)

of_place : {A : Type 0} (l : List A) (i : ℕ) (d : A) → i < length l → IsOf (get_or l i d) l
of_place [] i d h = absurd (omega (arith, h))
of_place (x ∷ l) zero d h = inl refl
of_place (x ∷ l) (suc i) d h = inr (of_place l i d (omega (arith, h)))

-- the same in another order
pub of_moved : {A : Type 0} (xs ys : List A) (q : A) → IsPermutation xs ys → IsOf q ys → IsOf q xs
of_moved xs ys q moved is =
    let at = place_of q ys is in
    subst (λ x. IsOf x xs) (at.2 q) (All-permutation (λ x. IsOf x xs) xs ys moved (λ k d h. of_place xs k d h) at.0 q at.1)

pub ordered_is : (found all once : List Names) → IsPermutation found all → IsOnce once all → IsOrdered found once
ordered_is found all once moved is = record {
  from = λ q here. of_moved found all q moved (is.from q here);
  all = λ q here. is.all q (of_moved all found q (IsPermutation-sym found all moved) here);
  order = is.order;
}

-- In a sorted list nothing stands behind what comes after it.
pub none_greater : (xs front rest : List Names) (path : Names) → IsSorted path_cmp xs → xs ≡ front ++ path ∷ rest → (q : Names) → IsOf q front → path_cmp q path ≡ Greater → ⊥
none_greater xs front rest path sorted parts q is e =
    let at = place_of q front is in
    let lt : is_lt (path_cmp path q) ≡ false = subst (λ a. is_lt (path_cmp a q) ≡ false) (ap (λ l. get_or l (length front) path) parts ∙ middle front)
    (subst (λ b. is_lt (path_cmp (get_or xs (length front) path) b) ≡ false) (ap (λ l. get_or l at.0 path) parts ∙ front_get front at.0 at.1 ∙ at.2 path)
    (sorted_far (λ x y. is_lt (path_cmp x y)) (ranks_by path_total (λ (x : Names). x)) xs sorted at.0 (length front) path (omega (arith, at.1)) (inside))) in
    true≢false (sym (ap is_lt (turned q path Greater e)) ∙ lt)
  where
    middle : (front : List Names) → get_or (front ++ path ∷ rest) (length front) path ≡ path
    middle [] = refl
    middle (x ∷ front) = middle front

    front_get : (front : List Names) (i : ℕ) → i < length front → get_or (front ++ path ∷ rest) i path ≡ get_or front i path
    front_get [] i h = absurd (omega (arith, h))
    front_get (x ∷ front) zero h = refl
    front_get (x ∷ front) (suc i) h = front_get front i (omega (arith, h))

    inside : length front < length xs
    inside = subst (λ l. length front < length l) (sym parts) (omega (arith, length-append front (path ∷ rest)))

-- ---- one step of the way through the paths

pub drop_step : (paths : List Names) (i : ℕ) (d : Names) → i < length paths → drop i paths ≡ get_or paths i d ∷ drop (i + 1) paths
drop_step [] i d h = absurd (omega (arith, h))
drop_step (p ∷ ps) zero d h = refl
drop_step (p ∷ ps) (suc i) d h = drop_step ps i d (omega (arith, h)) ∙ ap (λ k. get_or ps i d ∷ drop k (p ∷ ps)) (one_on i)
  where
    one_on : (i : ℕ) → suc (i + 1) ≡ suc i + 1
    one_on i = omega arith

-- the files at a path, and those behind it
pub keep_step : (files before after : List Kept) (kept : Option Kept) (paths more : List Names) (p : Names) → paths ≡ p ∷ more → AreAscending paths → kept ≡ kept_at p before → KeepsBehind p before after
    → (files ++ option_to_list kept) ++ kept_of more after ≡ files ++ kept_of paths before
keep_step files before after kept paths more p parts up is behind =
    append_assoc files (option_to_list kept) (kept_of more after)
    ∙ ap (λ r. files ++ r) (ap (λ o. option_to_list o ++ kept_of more after) is
    ∙ ap (λ r. option_to_list (kept_at p before) ++ r) (kept_same before after more (same_behind p before before after more (first_below p more (subst AreAscending parts up)) behind (same_at_all before more)))
    ∙ ap (λ ps. kept_of ps before) (sym parts))

pub popped : (all rest : List Kept) (r : Option Kept) (f : Kept) → all ≡ rest ++ option_to_list r → r ≡ Some f → reverse all ≡ f ∷ reverse rest
popped all rest r f items is = top_first all rest f (items ∙ ap (λ o. rest ++ option_to_list o) is)

-- what next_kept does where the next file stands in front of the path
pub passed : (p : Names) (start all rest : List Kept) (f : Kept) → reverse all ≡ f ∷ reverse rest → path_cmp f.path p ≡ Less
    → (kept_at p (reverse all) ≡ kept_at p (reverse start)) × KeepsBehind p (reverse start) (reverse all) × AreInOrder (reverse all)
    → (kept_at p (reverse rest) ≡ kept_at p (reverse start)) × KeepsBehind p (reverse start) (reverse rest) × AreInOrder (reverse rest)
passed p start all rest f top less (at, behind, order) = (
  sym (ap (kept_at p) top ∙ passed_at p f (reverse rest) less) ∙ at,
  behind_twice p (reverse start) (reverse all) (reverse rest) behind (subst (λ l. KeepsBehind p l (reverse rest)) (sym top) (passed_behind p f (reverse rest) less)),
  behind_first f.path (map (λ (k : Kept). k.path) (reverse rest)) (subst AreInOrder top order),
)

-- the last of them comes first where they are turned round
turned_first : (all : List Kept) (f : Kept) → 0 < length all → get_or all (length all - 1) f ≡ f → (rest : List Kept) × (reverse all ≡ f ∷ reverse rest)
turned_first all f some is = elim (ends all) [
  | inl none ↦ absurd (omega (arith, some, ap length none))
  | inr (front, last, parts) ↦ (front, top_first all front f (parts ∙ ap (λ x. front ++ x ∷ []) (sym (ap (λ l. get_or l (length l - 1) f) parts ∙ at_end front last) ∙ is)))
]
  where
    ends : (l : List Kept) → (l ≡ []) ⊎ ((front : List Kept) × (last : Kept) × (l ≡ front ++ last ∷ []))
    ends [] = inl refl
    ends (x ∷ l) = elim (ends l) [
      | inl none ↦ inr ([], x, ap (λ z. x ∷ z) none)
      | inr more ↦ inr (x ∷ more.0, more.1, ap (λ z. x ∷ z) more.2)
    ]

    at_end : (front : List Kept) (last : Kept) → get_or (front ++ last ∷ []) (length (front ++ last ∷ []) - 1) f ≡ last
    at_end front last = ap (λ n. get_or (front ++ last ∷ []) n f) (ap (λ n. n - 1) (length-append front (last ∷ [])) ∙ less_one (length front)) ∙ there front
      where
        less_one : (n : ℕ) → (n + 1) - 1 ≡ n
        less_one n = omega arith

        there : (front : List Kept) → get_or (front ++ last ∷ []) (length front) f ≡ last
        there [] = refl
        there (x ∷ front) = there front

pub beyond_of : (p : Names) (all : List Kept) (f : Kept) → (0 < length all) × (get_or all (length all - 1) f ≡ f) → AreInOrder (reverse all) → path_cmp f.path p ≡ Greater → kept_at p (reverse all) ≡ None
beyond_of p all f (some, is) order more =
    let (rest, top) = turned_first all f some is in
    ap (kept_at p) top ∙ beyond_at p f (reverse rest) (subst AreInOrder top order) more
