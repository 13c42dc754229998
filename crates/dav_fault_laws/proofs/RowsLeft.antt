-- The rows that a page has left are a part of its rows, in their order.
use Rattle.std.proofs.Common.{◌≡◌, ◌<◌, ◌≤◌, ◌⊎◌, inl, inr, ℕ, suc, Bool, true, false, cond, List, [], ◌∷◌, ◌++◌, length, get_or, refl, sym, ap, subst, ◌∙◌, arith, add-one}
use Rattle.std.proofs.lemmas.List.Elements.{All-from_recursion, recursion_from_All}
use Rattle.std.proofs.lemmas.List.Sorted.{All-permutation, ranks_by, sum_by-IsPermutation}
use Rattle.std.proofs.lemmas.List.Sums.{sum_by-append, sum_by-cons}
use Rattle.std.proofs.lemmas.Slice.Eq.{bytes_eq-Decides}
use Rattle.std.specs.Cmp.{IsStrictWeakOrder}
use Rattle.std.specs.Cmp.Lexicographic.{nat_list_cmp_total, slice_cmp}
use Rattle.std.specs.List.{AllByRecursion, AllZip, filter, sum_by}
use Rattle.std.specs.List.Sorted.{IsPermutation, IsSortedByKey}
use Rattle.std.specs.Ordering.{is_lt, nat_cmp}
use Rattle.std.specs.Str.{bytes_eq}
use Rattle.dav_core.specs.declared.member.Member.{Member}
use Rattle.dav_core.specs.DavPath.{WebPath}
use Rattle.dav_core.specs.Members.{members}
use Rattle.dav_core.specs.Path.{Names}
use Rattle.dav_core.specs.Tree.{is_tree}
use Rattle.dav_core.specs.World.{World}
use Rattle.dav_model.specs.Indexes.{AreRowsOfSome}
use Rattle.dav_page.specs.Listed.{AreRows, IsRowOf, is_visible, place_of}
use Rattle.dav_page.specs.declared.row.PageRow.{PageRow}
use Rattle.dav_fault_laws.specs.Parts.{IsPart}
use Rattle.dav_fault_laws.proofs.Dates.{one_row}
use Rattle.dav_fault_laws.proofs.Places.{IsFound, alike, all_found, members_apart, one_found}
use Rattle.dav_core.proofs.ByteOrder.{not_itself, same_name}

-- ---- the order of places

abbrev below : List ℕ → List ℕ → Bool
below x y = is_lt (slice_cmp nat_cmp x y)

order : IsStrictWeakOrder below
order = ranks_by nat_list_cmp_total (λ (x : List ℕ). x)

-- ---- members that ascend

abbrev IsNotBelow : Member → Member → Type 0
IsNotBelow m n = below (place_of n) (place_of m) ≡ false

-- none is below one before it
abbrev Ascends : List Member → Type 0
Ascends [] = Unit {0}
Ascends (m ∷ ms) = AllByRecursion (IsNotBelow m) ms × Ascends ms

all_above : (m n : Member) (ms : List Member) → IsNotBelow m n → AllByRecursion (IsNotBelow n) ms → AllByRecursion (IsNotBelow m) ms
all_above m n [] e all = tt
all_above m n (z ∷ ms) e all = (order.chain (place_of z) (place_of n) (place_of m) all.0 e, all_above m n ms e all.1)

abbrev Steps : List Member → Type 0
Steps ms = (k : ℕ) (d : Member) → suc k < length ms → below (place_of (get_or ms (suc k) d)) (place_of (get_or ms k d)) ≡ false

steps_of : (ms : List Member) → IsSortedByKey place_of (slice_cmp nat_cmp) ms → Steps ms
steps_of ms sorted k d lt =
    subst (λ n. below (place_of (get_or ms n d)) (place_of (get_or ms k d)) ≡ false) (add-one k) (sorted k d (omega arith) (omega arith))

ascends_by : (ms : List Member) → Steps ms → Ascends ms
ascends_by [] steps = tt
ascends_by (m ∷ []) steps = (tt, tt)
ascends_by (m ∷ n ∷ ms) steps =
    let rest = ascends_by (n ∷ ms) (λ k d lt. steps (suc k) d (omega arith)) in
    let first : IsNotBelow m n = steps 0 m (omega arith) in
    ((first, all_above m n ms first rest.0), rest)

ascends : (ms : List Member) → IsSortedByKey place_of (slice_cmp nat_cmp) ms → Ascends ms
ascends ms sorted = ascends_by ms (steps_of ms sorted)

-- ---- how often a place stands in a list

abbrev has_place : List ℕ → Member → ℕ
has_place k m = cond (bytes_eq k (place_of m)) 1 0

abbrev count : List ℕ → List Member → ℕ
count k ms = sum_by (has_place k) ms

-- what holds of each holds of one that is counted
counted : (P : List ℕ → Type 0) (k : List ℕ) (ms : List Member) → 0 < count k ms → AllByRecursion (λ m. P (place_of m)) ms → P k
counted P k [] some all = absurd (omega arith)
counted P k (m ∷ ms) some all = by_bool (bytes_eq k (place_of m)) refl (λ later. counted P k ms later all.1)
  where
    by_bool : (b : Bool) → bytes_eq k (place_of m) ≡ b → (0 < count k ms → P k) → P k
    by_bool true e later = subst P (sym ((bytes_eq-Decides k (place_of m)).0 e)) all.0
    by_bool false e later =
        let more = sum_by-cons (has_place k) m ms in
        let none : has_place k m ≡ 0 = ap (λ b. cond b 1 0) e in
        later (omega (arith, more, none, some))

some_first : (m : Member) (ms : List Member) → 0 < count (place_of m) (m ∷ ms)
some_first m ms =
    let one : has_place (place_of m) m ≡ 1 = ap (λ b. cond b 1 0) ((bytes_eq-Decides (place_of m) (place_of m)).1 refl) in
    omega (arith, sum_by-cons (has_place (place_of m)) m ms, one)

-- ---- a part of what ascends

abbrev Fewer : List Member → List Member → Type 0
Fewer xs ys = (k : List ℕ) → count k xs ≤ count k ys

fewer_behind : (x y : Member) (xs ys : List Member) → x ≡ y → Fewer (x ∷ xs) (y ∷ ys) → Fewer xs ys
fewer_behind x y xs ys same fewer k =
    omega (arith, fewer k, sum_by-cons (has_place k) x xs, sum_by-cons (has_place k) y ys, ap (has_place k) same)

-- Where the first of the longer list has another place than the first of the other, it has no place there.
fewer_without : (x y : Member) (xs ys : List Member) → Ascends (x ∷ xs) → Ascends (y ∷ ys) → alike x y ≡ false → Fewer (x ∷ xs) (y ∷ ys) → Fewer (x ∷ xs) ys
fewer_without x y xs ys up down other fewer k = by_bool (bytes_eq k (place_of y)) refl
  where
    there : below (place_of x) (place_of y) ≡ false
    there = counted (λ z. below z (place_of y) ≡ false) (place_of x) (y ∷ ys) (omega (arith, fewer (place_of x), some_first x xs)) (not_itself (place_of y), down.0)

    back : 0 < count (place_of y) (x ∷ xs) → below (place_of y) (place_of x) ≡ false
    back some = counted (λ z. below z (place_of x) ≡ false) (place_of y) (x ∷ xs) some (not_itself (place_of x), up.0)

    none : 0 < count (place_of y) (x ∷ xs) → ⊥
    none some =
        let same : place_of x ≡ place_of y = same_name (place_of x) (place_of y) there (back some) in
        let bad : true ≡ false = sym ((bytes_eq-Decides (place_of x) (place_of y)).1 same) ∙ other in cc

    by_bool : (b : Bool) → bytes_eq k (place_of y) ≡ b → count k (x ∷ xs) ≤ count k ys
    by_bool false e =
        let out : has_place k y ≡ 0 = ap (λ b. cond b 1 0) e in
        omega (arith, fewer k, sum_by-cons (has_place k) y ys, out)
    by_bool true e =
        let is : k ≡ place_of y = (bytes_eq-Decides k (place_of y)).0 e in
        subst (λ z. count z (x ∷ xs) ≤ count z ys) (sym is) (omega (arith, none))

part_of : (all xs ys : List Member) → AllByRecursion (IsFound all) xs → AllByRecursion (IsFound all) ys → Ascends xs → Ascends ys → Fewer xs ys → IsPart xs ys
part_of all [] ys p q up down fewer = tt
part_of all (x ∷ xs) [] p q up down fewer = absurd (omega (arith, fewer (place_of x), some_first x xs))
part_of all (x ∷ xs) (y ∷ ys) p q up down fewer =
    by_bool (alike x y) refl (λ same. part_of all xs ys p.1 q.1 up.1 down.1 (fewer_behind x y xs ys same fewer))
    (λ other. part_of all (x ∷ xs) ys p q.1 up down.1 (fewer_without x y xs ys up down other fewer))
  where
    by_bool : (b : Bool) → alike x y ≡ b → (x ≡ y → IsPart xs ys) → (alike x y ≡ false → IsPart (x ∷ xs) ys) → ((x ≡ y) × IsPart xs ys) ⊎ IsPart (x ∷ xs) ys
    by_bool true e kept out = let same : x ≡ y = one_found all x y p.0 q.0 e in inl (same, kept same)
    by_bool false e kept out = inr (out e)

-- ---- what filters and permutations keep

abbrev shows : (Member → Bool) → List ℕ → Member → ℕ
shows p k m = cond (p m) (has_place k m) 0

count_filter : (p : Member → Bool) (k : List ℕ) (ms : List Member) → count k (filter p ms) ≡ sum_by (shows p k) ms
count_filter p k [] = refl
count_filter p k (m ∷ ms) = by_bool (p m) refl (count_filter p k ms)
  where
    by_bool : (b : Bool) → p m ≡ b → count k (filter p ms) ≡ sum_by (shows p k) ms → count k (cond b (m ∷ filter p ms) (filter p ms)) ≡ sum_by (shows p k) (m ∷ ms)
    by_bool true e later =
        let here : shows p k m ≡ has_place k m = ap (λ b. cond b (has_place k m) 0) e in
        omega (arith, later, here, sum_by-cons (has_place k) m (filter p ms), sum_by-cons (shows p k) m ms)
    by_bool false e later =
        let here : shows p k m ≡ 0 = ap (λ b. cond b (has_place k m) 0) e in
        omega (arith, later, here, sum_by-cons (shows p k) m ms)

filter_all : (P : Member → Type 0) (p : Member → Bool) (ms : List Member) → AllByRecursion P ms → AllByRecursion P (filter p ms)
filter_all P p [] all = tt
filter_all P p (m ∷ ms) all = by_bool (p m) (filter_all P p ms all.1)
  where
    by_bool : (b : Bool) → AllByRecursion P (filter p ms) → AllByRecursion P (cond b (m ∷ filter p ms) (filter p ms))
    by_bool true later = (all.0, later)
    by_bool false later = later

front_all : (P : Member → Type 0) (xs ys : List Member) → AllByRecursion P (xs ++ ys) → AllByRecursion P xs
front_all P [] ys all = tt
front_all P (x ∷ xs) ys all = (all.0, front_all P xs ys all.1)

moved_all : (P : Member → Type 0) (xs ys : List Member) → IsPermutation xs ys → AllByRecursion P xs → AllByRecursion P ys
moved_all P xs ys moved all = recursion_from_All P ys (All-permutation P xs ys moved (All-from_recursion P xs all))

-- ---- rows

rows_part : (dir : WebPath) (ms ns : List Member) (rs ss : List PageRow) → AllZip (IsRowOf dir) ms rs → AllZip (IsRowOf dir) ns ss → IsPart ms ns → IsPart rs ss
rows_part dir [] ns [] ss p q part = tt
rows_part dir [] ns (r ∷ rs) ss p q part = absurd p
rows_part dir (m ∷ ms) ns [] ss p q part = absurd p
rows_part dir (m ∷ ms) [] (r ∷ rs) ss p q part = absurd part
rows_part dir (m ∷ ms) (n ∷ ns) (r ∷ rs) [] p q part = absurd q
rows_part dir (m ∷ ms) (n ∷ ns) (r ∷ rs) (s ∷ ss) p q (inl (same, part)) =
    inl (one_row dir n r s (subst (λ x. IsRowOf dir x r) same p.0) q.0, rows_part dir ms ns rs ss p.1 q.1 part)
rows_part dir (m ∷ ms) (n ∷ ns) (r ∷ rs) (s ∷ ss) p q (inr part) = inr (rows_part dir (m ∷ ms) ns (r ∷ rs) ss p q.1 part)

pub rows_left : (w : World) (at : Names) (dir : WebPath) (some whole : List PageRow) → is_tree w.tree ≡ true → AreRowsOfSome dir (members w at) some → AreRows dir (members w at) whole
    → IsPart some whole
rows_left w at dir some whole is left rows = rows_part dir left.shown.listed rows.listed some whole left.shown.shown rows.shown
    (part_of all left.shown.listed rows.listed
    (moved_all (IsFound all) (filter is_visible left.some) left.shown.listed left.shown.each_once (filter_all (IsFound all) is_visible left.some some_found))
    (moved_all (IsFound all) (filter is_visible all) rows.listed rows.each_once (filter_all (IsFound all) is_visible all each))
    (ascends left.shown.listed left.shown.in_order) (ascends rows.listed rows.in_order) fewer)
  where
    all : List Member
    all = members w at

    each : AllByRecursion (IsFound all) all
    each = all_found all (members_apart w at is)

    some_found : AllByRecursion (IsFound all) left.some
    some_found = front_all (IsFound all) left.some left.missing (moved_all (IsFound all) all (left.some ++ left.missing) left.parts each)

    fewer : Fewer left.shown.listed rows.listed
    fewer k = omega (
      arith,
      sum_by-IsPermutation (has_place k) (filter is_visible left.some) left.shown.listed left.shown.each_once,
      sum_by-IsPermutation (has_place k) (filter is_visible all) rows.listed rows.each_once,
      count_filter is_visible k left.some,
      count_filter is_visible k all,
      sum_by-IsPermutation (shows is_visible k) all (left.some ++ left.missing) left.parts,
      sum_by-append (shows is_visible k) left.some left.missing,
    )
