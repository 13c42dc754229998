-- The code's table of names: it is in order, and says what the named entities say.
use Rattle.std.proofs.Common.{◌≡◌, ℕ, ◌+◌, ◌<◌, Bool, true, false, cond, ◌&&◌, List, [], ◌∷◌, length, refl, sym, ◌∙◌, ap, inl, inr, Option, Some, None, Err, bytes_eq, arith, nat_eq, map, get_or, zero, suc}
use Rattle.std.specs.Map.{lookup}
use Rattle.std.specs.Ordering.{nat_cmp, is_lt, is_eq, ordering_reverse}
use Rattle.std.specs.declared.cmp.Ordering.TheVariants.{Less, Equal}
use Rattle.std.specs.Cmp.Lexicographic.{slice_cmp}
use Rattle.std.specs.List.{list_all, AllByRecursion}
use Rattle.std.specs.List.Sorted.{IsStrictlySortedBy, IsBinarySearchResult, IsSortedBy}
use Rattle.std.proofs.lemmas.Bool.{and_parts, false≢true, cases_lt}
use Rattle.std.proofs.lemmas.Slice.Eq.{bytes_eq-Decides}
use Rattle.std.proofs.lemmas.Map.Text.{is_eq-slice_cmp}
use Rattle.std.proofs.lemmas.Cmp.{nat_list_cmp_total}
use Rattle.std.proofs.lemmas.List.{get_or-map, length-map}
use Rattle.std.proofs.lemmas.List.Sorted.{searchable_from_sorted}
use Rattle.std.proofs.lemmas.Map.Keys.{Less-from_sorted}
use Rattle.std.proofs.lemmas.Bool.Decides.{Decides-eqb}
use Rattle.dav_io.proofs.Cases.{less_is}
use Rattle.htmlescape.specs.Names.{entities, latin, symbols, special, named}
use Rattle.htmlescape.specs.Table.{table, names, minimal_table}
use Rattle.htmlescape.specs.Escapes.{minimal_entity}

abbrev ascend : List (List ℕ) → Bool
ascend [] = true
ascend (x ∷ xs) = list_all (λ y. is_lt (slice_cmp nat_cmp x y)) xs && ascend xs

table_ascends : ascend names ≡ true
unfolding table names
table_ascends = refl

-- xs has no entry that a look-up in ys does not give
abbrev same_option : Option ℕ → ℕ → Bool
same_option None n = false
same_option (Some m) n = nat_eq m n

abbrev within : List (List ℕ × ℕ) → List (List ℕ × ℕ) → Bool
within [] ys = true
within (x ∷ xs) ys = same_option (lookup (bytes_eq x.0) ys) x.1 && within xs ys

table_within : within table entities ≡ true
unfolding table entities latin symbols special
table_within = refl

entities_within : within entities table ≡ true
unfolding table entities latin symbols special
entities_within = refl

all_below : (x : List ℕ) (ys : List (List ℕ)) → list_all (λ y. is_lt (slice_cmp nat_cmp x y)) ys ≡ true
    → AllByRecursion (λ y. slice_cmp nat_cmp x y ≡ Less) ys
all_below x [] e = tt
all_below x (y ∷ ys) e = let p = and_parts _ _ e in (less_is _ p.0, all_below x ys p.1)

sorted : (xs : List (List ℕ)) → ascend xs ≡ true → IsStrictlySortedBy (slice_cmp nat_cmp) xs
unfolding IsStrictlySortedBy
sorted [] e = tt
sorted (x ∷ xs) e = let p = and_parts _ _ e in (all_below x xs p.0, sorted xs p.1)

-- the names ascend strictly
pub names_sorted : IsStrictlySortedBy (slice_cmp nat_cmp) names
names_sorted = sorted names table_ascends

same : (o : Option ℕ) (n : ℕ) → same_option o n ≡ true → o ≡ Some n
same None n e = absurd (false≢true e)
same (Some m) n e = ap Some ((Decides-eqb m n).0 e)

-- a look-up that xs answers, ys answers alike
finds : (xs ys : List (List ℕ × ℕ)) → within xs ys ≡ true → (n : List ℕ) (v : ℕ) → lookup (bytes_eq n) xs ≡ Some v → lookup (bytes_eq n) ys ≡ Some v
finds [] ys e n v h = cc
finds (x ∷ xs) ys e n v h =
    let p = and_parts _ _ e in
    let at : lookup (bytes_eq x.0) ys ≡ Some x.1 = same _ _ p.0 in
    elim (bytes_eq n x.0) as (λ b. bytes_eq n x.0 ≡ b → cond b (Some x.1) (lookup (bytes_eq n) xs) ≡ Some v → lookup (bytes_eq n) ys ≡ Some v) [
      | true ↦ λ t s. let k : n ≡ x.0 = (bytes_eq-Decides n x.0).0 t in ap (λ m. lookup (bytes_eq m) ys) k ∙ at ∙ s
      | false ↦ λ t s. finds xs ys p.1 n v s
    ] refl h

-- an entry of xs is found in ys
finds_entry : (xs ys : List (List ℕ × ℕ)) → within xs ys ≡ true → (i : ℕ) (d : List ℕ × ℕ) → i < length xs
    → lookup (bytes_eq (get_or xs i d).0) ys ≡ Some (get_or xs i d).1
finds_entry [] ys e i d h = absurd (omega arith)
finds_entry (x ∷ xs) ys e zero d h = same _ _ (and_parts _ _ e).0
finds_entry (x ∷ xs) ys e (suc i) d h = finds_entry xs ys (and_parts _ _ e).1 i d (omega arith)

-- what is not in the table is no name
unnamed : (n : List ℕ) → lookup (bytes_eq n) table ≡ None → (o : Option ℕ) → lookup (bytes_eq n) entities ≡ o → o ≡ None
unnamed n e None h = refl
unnamed n e (Some v) h = let f = finds entities table entities_within n v h in cc

-- What follows is about the table as the code has it: xs, whose elements have a key and a value.
abbrev pairs : {E : Type 0} (key : E → List ℕ) (val : E → ℕ) → List E → List (List ℕ × ℕ)
pairs key val xs = map (λ e. (key e, val e)) xs

entry_at : {E : Type 0} (key : E → List ℕ) (val : E → ℕ) (xs : List E) → pairs key val xs ≡ table → (i : ℕ) (d : E) → i < length xs
    → get_or table i (key d, val d) ≡ (key (get_or xs i d), val (get_or xs i d))
entry_at key val xs e i d l = ap (λ t. get_or t i (key d, val d)) (sym e) ∙ get_or-map (λ e. (key e, val e)) xs i d (key d, val d) l

length_is : {E : Type 0} (key : E → List ℕ) (val : E → ℕ) (xs : List E) → pairs key val xs ≡ table → length table ≡ length xs
length_is key val xs e = ap length (sym e) ∙ length-map xs _

names_at : {E : Type 0} (key : E → List ℕ) (val : E → ℕ) (xs : List E) → pairs key val xs ≡ table → (i : ℕ) (d : E) → i < length xs
    → get_or names i (key d) ≡ key (get_or xs i d)
unfolding names
names_at key val xs e i d l =
    let short : i < length table = omega (arith, length_is key val xs e) in
    get_or-map (λ e. e.0) table i (key d, val d) (key d) short ∙ ap (λ p. p.0) (entry_at key val xs e i d l)

names_length : {E : Type 0} (key : E → List ℕ) (val : E → ℕ) (xs : List E) → pairs key val xs ≡ table → length names ≡ length xs
unfolding names
names_length key val xs e = length-map table _ ∙ length_is key val xs e

backwards : (a b : List ℕ) → slice_cmp nat_cmp a b ≡ Less → is_lt (slice_cmp nat_cmp b a) ≡ false
backwards a b e = ap is_lt (nat_list_cmp_total.antisymm b a ∙ ap ordering_reverse e)

in_order : {E : Type 0} (key : E → List ℕ) (val : E → ℕ) (xs : List E) → pairs key val xs ≡ table
    → IsSortedBy (λ a b. is_lt (slice_cmp nat_cmp (key a) (key b))) xs
in_order key val xs e = λ k d low l.
    let h : k + 1 < length names = omega (arith, names_length key val xs e) in
    let first = names_at key val xs e k d (omega arith) in
    let second = names_at key val xs e (k + 1) d (omega arith) in
    backwards (key (get_or xs k d)) (key (get_or xs (k + 1) d)) (sym (ap (λ n. slice_cmp nat_cmp n (get_or names (k + 1) (key d))) first ∙ ap (slice_cmp nat_cmp (key (get_or xs k d))) second) ∙ Less-from_sorted (slice_cmp nat_cmp) names k (k + 1) (key d) names_sorted (omega arith) h)

equal_names : (a b : List ℕ) → slice_cmp nat_cmp a b ≡ Equal → a ≡ b
equal_names a b e = (bytes_eq-Decides a b).0 (sym (is_eq-slice_cmp a b) ∙ ap is_eq e)

pub found : {E : Type 0} (key : E → List ℕ) (val : E → ℕ) (xs : List E) (name : List ℕ) → pairs key val xs ≡ table
    → (i : ℕ) (d : E) → i < length xs → slice_cmp nat_cmp (key (get_or xs i d)) name ≡ Equal → Some (val (get_or xs i d)) ≡ named name
unfolding named
found key val xs name e i d l h =
    let same_name = equal_names (key (get_or xs i d)) name h in
    let short : i < length table = omega (arith, length_is key val xs e) in
    let at = entry_at key val xs e i d l in
    let given = finds_entry table entities table_within i (key d, val d) short in
    sym (ap (λ n. lookup (bytes_eq n) entities) (sym (ap (λ p. p.0) at ∙ same_name)) ∙ given ∙ ap (λ p. Some p.1) at)

differs : (a b : List ℕ) → is_eq (slice_cmp nat_cmp a b) ≡ false → bytes_eq b a ≡ false
differs a b e = elim (bytes_eq b a) as (λ t. bytes_eq b a ≡ t → t ≡ false) [
  | true ↦ λ t. let s = (bytes_eq-Decides b a).0 t in absurd (false≢true (sym e ∙ is_eq-slice_cmp a b ∙ (bytes_eq-Decides a b).1 (sym s)))
  | false ↦ λ t. refl
] refl

-- no key is equal, and nothing is found
finds_none : {E : Type 0} (key : E → List ℕ) (val : E → ℕ) (n : List ℕ) (xs : List E)
    → ((i : ℕ) (d : E) → i < length xs → bytes_eq n (key (get_or xs i d)) ≡ false) → lookup (bytes_eq n) (pairs key val xs) ≡ None
finds_none key val n [] h = refl
finds_none key val n (x ∷ xs) h =
    ap (λ b. cond b (Some (val x)) (lookup (bytes_eq n) (pairs key val xs))) (h zero x (omega arith))
    ∙ finds_none key val n xs (λ i d l. h (suc i) d (omega arith))

missing : {E : Type 0} (key : E → List ℕ) (val : E → ℕ) (xs : List E) (name : List ℕ) → pairs key val xs ≡ table
    → ((i : ℕ) (d : E) → i < length xs → is_eq (slice_cmp nat_cmp (key (get_or xs i d)) name) ≡ false) → named name ≡ None
unfolding named
missing key val xs name e h =
    unnamed name (ap (lookup (bytes_eq name)) (sym e) ∙ finds_none key val name xs (λ i d l. differs (key (get_or xs i d)) name (h i d l))) _ refl

pub not_found : {E : Type 0} (key : E → List ℕ) (val : E → ℕ) (xs : List E) (name : List ℕ) (i : ℕ) → pairs key val xs ≡ table
    → IsBinarySearchResult (λ y. slice_cmp nat_cmp (key y) name) xs (Err i) → None ≡ named name
not_found key val xs name i e h =
    let parts = h (searchable_from_sorted nat_list_cmp_total key xs name (in_order key val xs e)) in
    sym (missing key val xs name e (λ k d l. elim (cases_lt k i) [
      | inl low ↦ ap is_eq (parts.0 k d (omega arith) low)
      | inr high ↦ ap is_eq (parts.1 k d high l)
    ]))

same_answers : (n : List ℕ) (o p : Option ℕ) → lookup (bytes_eq n) table ≡ o → lookup (bytes_eq n) entities ≡ p → o ≡ p
same_answers n None None e f = refl
same_answers n None (Some v) e f = let g = finds entities table entities_within n v f in cc
same_answers n (Some v) p e f = sym (finds table entities table_within n v e) ∙ f

pub table_named : (name : List ℕ) → lookup (bytes_eq name) table ≡ named name
unfolding named
table_named name = same_answers name _ _ refl refl

pub table_count : length table ≡ 252
unfolding table
table_count = refl

pub minimal_is : (c : ℕ) → lookup (nat_eq c) minimal_table ≡ minimal_entity c
unfolding minimal_table minimal_entity
minimal_is c = refl
