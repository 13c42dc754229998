-- Names in order: one more is kept, and what a sort and a `dedup` leave.
use Rattle.std.proofs.Common.{◌≡◌, Bool, true, false, ◌&&◌, ◌||◌, List, [], ◌∷◌, ◌++◌, Contains, Option, Some, None, if◌then◌else◌, refl, sym, ap, subst, ◌∙◌, inl, inr, Less}
use Rattle.std.specs.List.{list_all, list_any, dedup, AllByRecursion}
use Rattle.std.specs.List.Sorted.{IsPermutation, IsSorted, IsStrictlySortedBy}
use Rattle.std.specs.List.Retain.{IsFiltered, DiffersFromLast}
use Rattle.std.specs.Cmp.Lexicographic.{slice_cmp, nat_list_cmp_total, nat_list_eq_equiv, texts_ties}
use Rattle.std.specs.Ordering.{nat_cmp, is_lt}
use Rattle.std.proofs.lemmas.Bool.{cases_Bool, true≢false, false≢true, and_parts, and_from}
use Rattle.std.proofs.lemmas.List.Filters.{dedup_is}
use Rattle.std.proofs.lemmas.List.Kept.{Contains-dedup, Contains-from_dedup, IsStrictlySortedBy-dedup}
use Rattle.std.proofs.lemmas.List.Sorted.{Contains-permutation, IsPermutation-sym}
use Rattle.std.proofs.lemmas.Map.Views.{list_any-from_Contains, Contains-from_any}
use Rattle.dav_io.proofs.Cases.{same_tests}
use Rattle.dav_memory.specs.Builder.{BuilderState, with_name}
use Rattle.dav_memory.specs.Trees.{Name, Names, FileTime, same_name, is_dot, is_less, is_after}
use Rattle.dav_memory.specs.Entries.{kept, in_order, is_rising, are_sealable}
use Rattle.dav_memory.proofs.Keys.{name_decides, name_tells}
use Rattle.dav_memory.proofs.Order.{less_itself, less_other, less_trans, any_front, any_cases, any-push}

kept-case : (P : List Name → Type 0) (n m : Name) (ms : List Name) → (is_less n m ≡ true → P (n ∷ m ∷ ms))
    → (is_less n m ≡ false → is_less m n ≡ true → P (m ∷ kept n ms)) → (is_less n m ≡ false → is_less m n ≡ false → P (m ∷ ms)) → P (kept n (m ∷ ms))
kept-case P n m ms f g h =
    (elim (is_less n m) as (λ b. is_less n m ≡ b → P (if b then n ∷ m ∷ ms else (if is_less m n then m ∷ kept n ms else m ∷ ms))) [
      | true ↦ λ t. f t
      | false ↦ λ t. (elim (is_less m n) as (λ b. is_less m n ≡ b → P (if b then m ∷ kept n ms else m ∷ ms)) [ true ↦ λ u. g t u | false ↦ λ u. h t u ]) refl
    ]) refl

rising-kept : (last : Option Name) (n : Name) (names : List Name) → is_after last n ≡ true → is_rising last names ≡ true
    → is_rising last (kept n names) ≡ true
rising-kept last n [] after_ rise = and_from (is_after last n) true after_ refl
rising-kept last n (m ∷ ms) after_ rise =
    let parts = and_parts (is_after last m) (is_rising (Some m) ms) rise in
    kept-case (λ l. is_rising last l ≡ true) n m ms
    (λ less. and_from (is_after last n) (is_less n m && is_rising (Some m) ms) after_ (and_from (is_less n m) (is_rising (Some m) ms) less parts.1))
    (λ not_ more. and_from (is_after last m) (is_rising (Some m) (kept n ms)) parts.0 (rising-kept (Some m) n ms more parts.1))
    (λ not_ nor. rise)

dots-kept : (n : Name) (names : List Name) → is_dot n ≡ true → list_all is_dot names ≡ true → list_all is_dot (kept n names) ≡ true
dots-kept n [] dot all = and_from (is_dot n) true dot refl
dots-kept n (m ∷ ms) dot all =
    let parts = and_parts (is_dot m) (list_all is_dot ms) all in
    kept-case (λ l. list_all is_dot l ≡ true) n m ms
    (λ less. and_from (is_dot n) (is_dot m && list_all is_dot ms) dot all)
    (λ not_ more. and_from (is_dot m) (list_all is_dot (kept n ms)) parts.0 (dots-kept n ms dot parts.1))
    (λ not_ nor. all)

-- ---- names in order

rising-order : (names : List Name) → is_rising None (in_order names) ≡ true
rising-order [] = refl
rising-order (n ∷ ns) = rising-kept None n (in_order ns) refl (rising-order ns)

pub dots-order : (names : List Name) → list_all is_dot names ≡ true → list_all is_dot (in_order names) ≡ true
dots-order [] all = refl
dots-order (n ∷ ns) all =
    let parts = and_parts (is_dot n) (list_all is_dot ns) all in
    dots-kept n (in_order ns) parts.0 (dots-order ns parts.1)

pub sealable-order : (names : List Name) → list_all is_dot names ≡ true → are_sealable (in_order names) ≡ true
sealable-order names all = and_from (list_all is_dot (in_order names)) (is_rising None (in_order names)) (dots-order names all) (rising-order names)

pub dots-push : (names : List Name) (n : Name) → list_all is_dot names ≡ true → is_dot n ≡ true → list_all is_dot (names ++ n ∷ []) ≡ true
dots-push [] n all dot = and_from (is_dot n) true dot refl
dots-push (m ∷ ms) n all dot =
    let parts = and_parts (is_dot m) (list_all is_dot ms) all in
    and_from (is_dot m) (list_all is_dot (ms ++ n ∷ [])) parts.0 (dots-push ms n parts.1 dot)

-- ---- the names that stand there

swap : (a b c : Bool) → (a || (b || c)) ≡ (b || (a || c))
swap true true c = refl
swap true false c = refl
swap false b c = refl

twice : (a c : Bool) → (a || c) ≡ (a || (a || c))
twice true c = refl
twice false c = refl

pub any-kept : (x n : Name) (names : List Name) → list_any (same_name x) (kept n names) ≡ (same_name x n || list_any (same_name x) names)
any-kept x n [] = refl
any-kept x n (m ∷ ms) =
    kept-case (λ l. list_any (same_name x) l ≡ (same_name x n || (same_name x m || list_any (same_name x) ms))) n m ms
    (λ less. refl)
    (λ not_ more. ap (λ b. same_name x m || b) (any-kept x n ms) ∙ swap (same_name x m) (same_name x n) (list_any (same_name x) ms))
    (λ not_ nor.
    let same : n ≡ m = elim (less_other n m not_) [ inl same ↦ same | inr less ↦ absurd (true≢false (sym less ∙ nor)) ] in
    twice (same_name x m) (list_any (same_name x) ms) ∙ ap (λ w. same_name x w || (same_name x m || list_any (same_name x) ms)) (sym same))

any-order : (x : Name) (names : List Name) → list_any (same_name x) (in_order names) ≡ list_any (same_name x) names
any-order x [] = refl
any-order x (n ∷ ns) = any-kept x n (in_order ns) ∙ ap (λ b. same_name x n || b) (any-order x ns)

-- ---- names that rise are settled by which stand there

all_after : (m : Name) (names : List Name) → is_rising (Some m) names ≡ true → (x : Name) → list_any (same_name x) names ≡ true → is_less m x ≡ true
all_after m [] rise x h = absurd (false≢true h)
all_after m (n ∷ ns) rise x h =
    let parts = and_parts (is_less m n) (is_rising (Some n) ns) rise in
    elim (any_cases x n ns h) [
      | inl same ↦ subst (λ w. is_less m w ≡ true) (sym same) parts.0
      | inr more ↦ less_trans m n x parts.0 (all_after n ns parts.1 x more)
    ]

not_among : (m : Name) (names : List Name) → is_rising (Some m) names ≡ true → list_any (same_name m) names ≡ false
not_among m names rise = elim (cases_Bool (list_any (same_name m) names)) [
  | inl among ↦ absurd (true≢false (sym (all_after m names rise m among) ∙ less_itself m))
  | inr not_ ↦ not_
]

first_same : (x y : Name) (xs ys : List Name) → is_rising (Some x) xs ≡ true → is_rising (Some y) ys ≡ true
    → ((z : Name) → list_any (same_name z) (x ∷ xs) ≡ list_any (same_name z) (y ∷ ys)) → x ≡ y
first_same x y xs ys rx ry same =
    elim (any_cases x y ys (sym (same x) ∙ any_front x xs)) [
      | inl is ↦ is
      | inr behind ↦ elim (any_cases y x xs (same y ∙ any_front y ys)) [
        | inl is ↦ sym is
        | inr later ↦ absurd (true≢false (sym (less_trans x y x (all_after x xs rx y later) (all_after y ys ry x behind)) ∙ less_itself x))
      ]
    ]

rest_same : (x : Name) (xs ys : List Name) → is_rising (Some x) xs ≡ true → is_rising (Some x) ys ≡ true
    → ((z : Name) → list_any (same_name z) (x ∷ xs) ≡ list_any (same_name z) (x ∷ ys)) → (z : Name)
    → list_any (same_name z) xs ≡ list_any (same_name z) ys
rest_same x xs ys rx ry same z = elim (name_tells z x) [
  | inl is ↦ subst (λ w. list_any (same_name w) xs ≡ list_any (same_name w) ys) (sym is.1) (not_among x xs rx ∙ sym (not_among x ys ry))
  | inr is ↦ sym (ap (λ b. b || list_any (same_name z) xs) is.0) ∙ same z ∙ ap (λ b. b || list_any (same_name z) ys) is.0
]

rise_once : (last : Option Name) (xs ys : List Name) → is_rising last xs ≡ true → is_rising last ys ≡ true
    → ((z : Name) → list_any (same_name z) xs ≡ list_any (same_name z) ys) → xs ≡ ys
rise_once last [] [] rx ry same = refl
rise_once last [] (y ∷ ys) rx ry same = absurd (false≢true (same y ∙ any_front y ys))
rise_once last (x ∷ xs) [] rx ry same = absurd (true≢false (sym (any_front x xs) ∙ same x))
rise_once last (x ∷ xs) (y ∷ ys) rx ry same =
    let px = (and_parts (is_after last x) (is_rising (Some x) xs) rx).1 in
    let py = (and_parts (is_after last y) (is_rising (Some y) ys) ry).1 in
    let one = first_same x y xs ys px py same in
    let py' : is_rising (Some x) ys ≡ true = subst (λ w. is_rising (Some w) ys ≡ true) (sym one) py in
    let same' : (z : Name) → list_any (same_name z) (x ∷ xs) ≡ list_any (same_name z) (x ∷ ys) = λ z. same z ∙ ap (λ w. list_any (same_name z) (w ∷ ys)) (sym one) in
    let rest = rise_once (Some x) xs ys px py' (rest_same x xs ys px py' same') in
    λ i. one i ∷ rest i

-- one more name at the end
order-push : (names : List Name) (n : Name) → in_order (names ++ n ∷ []) ≡ kept n (in_order names)
order-push names n =
    rise_once None (in_order (names ++ n ∷ [])) (kept n (in_order names)) (rising-order (names ++ n ∷ [])) (rising-kept None n (in_order names) refl (rising-order names))
    (λ z. any-order z (names ++ n ∷ []) ∙ any-push z n names ∙ sym (any-kept z n (in_order names) ∙ ap (λ b. same_name z n || b) (any-order z names)))

-- a builder to which a name was added
pub added : (name : Name) (xs ys : List Name) (dir : Names) (before : Option FileTime) (faulted finished : Bool) → is_dot name ≡ true
    → ys ≡ xs ++ name ∷ []
    → (let b : BuilderState = record { dir = dir; before = before; names = in_order ys; faulted = faulted; finished = finished } in b)
    ≡ with_name name (record { dir = dir; before = before; names = in_order xs; faulted = faulted; finished = finished })
added name xs ys dir before faulted finished dot is = rw (dot, is, order-push xs name) refl

-- what is in order stays
pub order-twice : (names : List Name) → in_order (in_order names) ≡ in_order names
order-twice names =
    rise_once None (in_order (in_order names)) (in_order names) (rising-order (in_order names)) (rising-order names)
    (λ z. any-order z (in_order names))

-- ---- what a sort and a `dedup` leave

strict_rises : (m : Name) (names : List Name) → AllByRecursion (λ y. slice_cmp nat_cmp m y ≡ Less) names
    → IsStrictlySortedBy (slice_cmp nat_cmp) names → is_rising (Some m) names ≡ true
unfolding IsStrictlySortedBy
strict_rises m [] all rest = refl
strict_rises m (n ∷ ns) all rest = and_from (is_less m n) (is_rising (Some n) ns) (ap is_lt all.0) (strict_rises n ns rest.0 rest.1)

rises : (names : List Name) → IsStrictlySortedBy (slice_cmp nat_cmp) names → is_rising None names ≡ true
unfolding IsStrictlySortedBy
rises [] strict = refl
rises (n ∷ ns) strict = strict_rises n ns strict.0 strict.1

names_same : (x y : Name) → same_name x y ≡ true → x ≡ y
names_same x y = (name_decides x y).0

among : (x : Name) (names : List Name) → Contains names x → list_any (same_name x) names ≡ true
among x names c = list_any-from_Contains nat_list_eq_equiv x names c

stands_there : (x : Name) (names : List Name) → list_any (same_name x) names ≡ true → Contains names x
stands_there x names h = Contains-from_any names_same x names h

pub order-sorted : (names sorted left : List Name) → IsPermutation names sorted → IsSorted (slice_cmp nat_cmp) sorted
    → IsFiltered (DiffersFromLast same_name) [] sorted left → left ≡ in_order names
order-sorted names sorted left permuted is filtered =
    let made : left ≡ dedup same_name sorted = dedup_is same_name sorted left filtered in
    let strict : IsStrictlySortedBy (slice_cmp nat_cmp) (dedup same_name sorted) = IsStrictlySortedBy-dedup nat_list_cmp_total texts_ties sorted is in
    made ∙ rise_once None (dedup same_name sorted) (in_order names) (rises (dedup same_name sorted) strict) (rising-order names)
    (λ z. same_tests (list_any (same_name z) (dedup same_name sorted)) (list_any (same_name z) names)
    (λ h. among z names (Contains-permutation sorted names z (IsPermutation-sym names sorted permuted) (Contains-from_dedup same_name sorted z (stands_there z (dedup same_name sorted) h))))
    (λ h. among z (dedup same_name sorted) (Contains-dedup nat_list_eq_equiv names_same sorted z (Contains-permutation names sorted z permuted (stands_there z names h))))
    ∙ sym (any-order z names))
