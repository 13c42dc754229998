-- Names in order: two lists of the same names in order are one, and rows of one directory in order have their names in order.
use Rattle.std.proofs.Common.{◌≡◌, ◌==◌, ◌<◌, ◌&&◌, ◌||◌, ℕ, suc, Bool, true, false, cond, nat_lt, List, [], ◌∷◌, ◌++◌, length, map, get_or, refl, sym, ap, subst, ◌∙◌, arith, add-one}
use Rattle.std.proofs.lemmas.List.Sorted.{IsPermutation-cons, IsPermutation-middle, IsPermutation-refl, IsPermutation-trans, sum_by-IsPermutation}
use Rattle.std.proofs.lemmas.List.Sums.{sum_by-cons}
use Rattle.std.proofs.lemmas.Slice.Eq.{bytes_eq-Decides}
use Rattle.std.specs.Cmp.Lexicographic.{slice_cmp}
use Rattle.std.specs.List.{AllByRecursion, sum_by}
use Rattle.std.specs.List.Sorted.{IsPermutation, IsSortedByKey}
use Rattle.std.specs.Ordering.{is_lt, nat_cmp, ordering_then}
use Rattle.std.specs.declared.cmp.Ordering.TheVariants.{Less, Equal, Greater}
use Rattle.std.specs.Str.{bytes_eq}
use Rattle.dav_core.specs.declared.tree.Row.{Row}
use Rattle.dav_core.specs.Listing.{name_of}
use Rattle.dav_core.specs.Path.{Names}
use Rattle.dav_core.proofs.ByteOrder.{below, not_itself, order, same_name}
use Rattle.dav_model.specs.Walks.{dir_first, in_order, name_before, put_by}
use Rattle.dav_walks.proofs.removals.RemovalOrder.{not_before}

-- ---- the order of names

-- the order of the walks is that of the comparison
before_below : (x y : List ℕ) → name_before x y ≡ below x y
before_below [] [] = refl
before_below [] (b ∷ y) = refl
before_below (a ∷ x) [] = refl
before_below (a ∷ x) (b ∷ y) = heads (nat_lt a b) (a == b) (before_below x y)
  where
    heads : (l e : Bool) → name_before x y ≡ below x y → (l || (e && name_before x y)) ≡ is_lt (ordering_then (cond l Less (cond e Equal Greater)) (slice_cmp nat_cmp x y))
    heads true e same = refl
    heads false true same = same
    heads false false same = refl

-- ---- names that ascend

-- no name is below one before it
abbrev pub Ascends : List (List ℕ) → Type 0
Ascends [] = Unit {0}
Ascends (x ∷ xs) = AllByRecursion (λ y. below y x ≡ false) xs × Ascends xs

all_above : (x y : List ℕ) (zs : List (List ℕ)) → below y x ≡ false → AllByRecursion (λ z. below z y ≡ false) zs → AllByRecursion (λ z. below z x ≡ false) zs
all_above x y [] e all = tt
all_above x y (z ∷ zs) e all = (order.chain z y x all.0 e, all_above x y zs e all.1)

module _ {X : Type 0} (key : X → List ℕ) where
  abbrev Steps : List X → Type 0
  Steps xs = (k : ℕ) (d : X) → suc k < length xs → below (key (get_or xs (suc k) d)) (key (get_or xs k d)) ≡ false

  steps_of : (xs : List X) → IsSortedByKey key (slice_cmp nat_cmp) xs → Steps xs
  steps_of xs sorted k d lt = subst (λ n. below (key (get_or xs n d)) (key (get_or xs k d)) ≡ false) (add-one k) (sorted k d (omega arith) (omega arith))

  ascends_by : (xs : List X) → Steps xs → Ascends (map key xs)
  ascends_by [] steps = tt
  ascends_by (x ∷ []) steps = (tt, tt)
  ascends_by (x ∷ y ∷ xs) steps =
      let rest = ascends_by (y ∷ xs) (λ k d lt. steps (suc k) d (omega arith)) in
      let first : below (key y) (key x) ≡ false = steps 0 x (omega arith) in
      ((first, all_above (key x) (key y) (map key xs) first rest.0), rest)

  pub sorted_ascends : (xs : List X) → IsSortedByKey key (slice_cmp nat_cmp) xs → Ascends (map key xs)
  sorted_ascends xs sorted = ascends_by xs (steps_of xs sorted)

-- ---- one list

abbrev counts_as : List ℕ → List ℕ → ℕ
counts_as x y = cond (bytes_eq x y) 1 0

abbrev count : List ℕ → List (List ℕ) → ℕ
count x ys = sum_by (counts_as x) ys

counts_itself : (x : List ℕ) → counts_as x x ≡ 1
counts_itself x = ap (λ b. cond b 1 0) ((bytes_eq-Decides x x).1 refl)

-- what holds of each holds of one that is counted
counted : (P : List ℕ → Type 0) (x : List ℕ) (ys : List (List ℕ)) → 0 < count x ys → AllByRecursion P ys → P x
counted P x [] some all = absurd (omega arith)
counted P x (y ∷ ys) some all = by_bool (bytes_eq x y) refl (λ later. counted P x ys later all.1)
  where
    by_bool : (b : Bool) → bytes_eq x y ≡ b → (0 < count x ys → P x) → P x
    by_bool true e later = subst P (sym ((bytes_eq-Decides x y).0 e)) all.0
    by_bool false e later =
        let more = sum_by-cons (counts_as x) y ys in
        let none : counts_as x y ≡ 0 = ap (λ b. cond b 1 0) e in
        later (omega (arith, more, none, some))

some_first : (x : List ℕ) (xs : List (List ℕ)) → 0 < count x (x ∷ xs)
some_first x xs = omega (arith, sum_by-cons (counts_as x) x xs, counts_itself x)

one_list : (xs ys : List (List ℕ)) → Ascends xs → Ascends ys → ((x : List ℕ) → count x xs ≡ count x ys) → xs ≡ ys
one_list [] [] a b same = refl
one_list [] (y ∷ ys) a b same = absurd (omega (arith, same y, some_first y ys))
one_list (x ∷ xs) [] a b same = absurd (omega (arith, same x, some_first x xs))
one_list (x ∷ xs) (y ∷ ys) a b same =
    let there : below x y ≡ false = counted (λ z. below z y ≡ false) x (y ∷ ys) (omega (arith, same x, some_first x xs)) (not_itself y, b.0) in
    let back : below y x ≡ false = counted (λ z. below z x ≡ false) y (x ∷ xs) (omega (arith, same y, some_first y ys)) (not_itself x, a.0) in
    let first : x ≡ y = same_name x y there back in
    let rest = one_list xs ys a.1 b.1 (λ z. omega (arith, same z, sum_by-cons (counts_as z) x xs, sum_by-cons (counts_as z) y ys, ap (counts_as z) first)) in
    ap (λ n. n ∷ xs) first ∙ ap (λ z. y ∷ z) rest

-- Two lists of the same names that ascend are one.
pub ascending_once : (xs ys : List (List ℕ)) → Ascends xs → Ascends ys → IsPermutation xs ys → xs ≡ ys
ascending_once xs ys a b order = one_list xs ys a b (λ x. sym (sum_by-IsPermutation (counts_as x) xs ys order))

-- ---- rows of a directory in order

abbrev InDir : Names → Row → Type 0
InDir dir row = row.path ≡ dir ++ name_of row ∷ []

-- below one directory a comparison is that of what comes behind it
dir_below : (at p q : Names) → dir_first (at ++ p) (at ++ q) ≡ dir_first p q
dir_below [] p q = refl
dir_below (name ∷ at) p q = rw (not_before name, (bytes_eq-Decides name name).1 refl, dir_below at p q) refl

or_nothing : (a b : Bool) → (a || (b && false)) ≡ a
or_nothing true b = refl
or_nothing false true = refl
or_nothing false false = refl

dir_names : (dir : Names) (row next : Row) → InDir dir row → InDir dir next → dir_first row.path next.path ≡ below (name_of row) (name_of next)
dir_names dir row next p q =
    ap (λ x. dir_first x next.path) p
    ∙ (ap (dir_first (dir ++ name_of row ∷ [])) q
    ∙ (dir_below dir (name_of row ∷ []) (name_of next ∷ [])
    ∙ (or_nothing (name_before (name_of row) (name_of next)) (bytes_eq (name_of row) (name_of next)) ∙ before_below (name_of row) (name_of next))))

all_put : (P : Row → Type 0) (before : Names → Names → Bool) (row : Row) (rows : List Row) → P row → AllByRecursion P rows → AllByRecursion P (put_by before row rows)
all_put P before row [] p all = (p, tt)
all_put P before row (next ∷ rows) p all = by_bool (before row.path next.path) (all_put P before row rows p all.1)
  where
    by_bool : (b : Bool) → AllByRecursion P (put_by before row rows) → AllByRecursion P (cond b (row ∷ next ∷ rows) (next ∷ put_by before row rows))
    by_bool true later = (p, all)
    by_bool false later = (all.0, later)

-- what holds of each row holds of each in order
pub all_in_order : (P : Row → Type 0) (before : Names → Names → Bool) (rows : List Row) → AllByRecursion P rows → AllByRecursion P (in_order before rows)
all_in_order P before [] all = tt
all_in_order P before (row ∷ rows) all = all_put P before row (in_order before rows) all.0 (all_in_order P before rows all.1)

names_put : (P : List ℕ → Type 0) (before : Names → Names → Bool) (row : Row) (rows : List Row) → P (name_of row) → AllByRecursion P (map name_of rows) → AllByRecursion P (map name_of (put_by before row rows))
names_put P before row [] p all = (p, tt)
names_put P before row (next ∷ rows) p all = by_bool (before row.path next.path) (names_put P before row rows p all.1)
  where
    by_bool : (b : Bool) → AllByRecursion P (map name_of (put_by before row rows)) → AllByRecursion P (map name_of (cond b (row ∷ next ∷ rows) (next ∷ put_by before row rows)))
    by_bool true later = (p, all)
    by_bool false later = (all.0, later)

put_ascends : (dir : Names) (row : Row) (rows : List Row) → InDir dir row → AllByRecursion (InDir dir) rows → Ascends (map name_of rows) → Ascends (map name_of (put_by dir_first row rows))
put_ascends dir row [] p all up = (tt, tt)
put_ascends dir row (next ∷ rows) p all up = by_bool (dir_first row.path next.path) (sym (dir_names dir row next p all.0)) (put_ascends dir row rows p all.1 up.1)
  where
    by_bool : (b : Bool) → below (name_of row) (name_of next) ≡ b → Ascends (map name_of (put_by dir_first row rows)) → Ascends (map name_of (cond b (row ∷ next ∷ rows) (next ∷ put_by dir_first row rows)))
    by_bool true e later =
        let first : below (name_of next) (name_of row) ≡ false = order.one_way (name_of row) (name_of next) e in
        ((first, all_above (name_of row) (name_of next) (map name_of rows) first up.0), up)
    by_bool false e later = (names_put (λ z. below z (name_of next) ≡ false) dir_first row rows e up.0, later)

pub order_ascends : (dir : Names) (rows : List Row) → AllByRecursion (InDir dir) rows → Ascends (map name_of (in_order dir_first rows))
order_ascends dir [] all = tt
order_ascends dir (row ∷ rows) all = put_ascends dir row (in_order dir_first rows) all.0 (all_in_order (InDir dir) dir_first rows all.1) (order_ascends dir rows all.1)

put_permutes : (before : Names → Names → Bool) (row : Row) (rows : List Row) → IsPermutation (row ∷ rows) (put_by before row rows)
put_permutes before row [] = IsPermutation-refl (row ∷ [])
put_permutes before row (next ∷ rows) = by_bool (before row.path next.path) (put_permutes before row rows)
  where
    by_bool : (b : Bool) → IsPermutation (row ∷ rows) (put_by before row rows) → IsPermutation (row ∷ next ∷ rows) (cond b (row ∷ next ∷ rows) (next ∷ put_by before row rows))
    by_bool true later = IsPermutation-refl (row ∷ next ∷ rows)
    by_bool false later =
        IsPermutation-trans (row ∷ next ∷ rows) (next ∷ row ∷ rows) (next ∷ put_by before row rows) (IsPermutation-middle (row ∷ []) next rows)
        (IsPermutation-cons next (row ∷ rows) (put_by before row rows) later)

pub order_permutes : (before : Names → Names → Bool) (rows : List Row) → IsPermutation rows (in_order before rows)
order_permutes before [] = IsPermutation-refl []
order_permutes before (row ∷ rows) =
    IsPermutation-trans (row ∷ rows) (row ∷ in_order before rows) (put_by before row (in_order before rows)) (IsPermutation-cons row rows (in_order before rows) (order_permutes before rows))
    (put_permutes before row (in_order before rows))
