-- What holds of each row of the large input, and of one of them.
use Rattle.std.proofs.Common.{◌≡◌, ◌⊎◌, inl, inr, ℕ, zero, suc, ◌<◌, ◌||◌, Bool, true, false, cond, List, [], ◌∷◌, ◌++◌, map, flat_map, Option, None, Some, refl, sym, ap, ◌∙◌, arith}
use Rattle.std.specs.List.{AllByRecursion, list_any, find}
use Rattle.dav_core.specs.declared.tree.Row.{Row}
use Rattle.dav_bench.specs.Tree.{upto, root_row, dir_row, file_row, dirs, files_of, files_below, rows_so_far}
use Rattle.std.proofs.lemmas.Bool.{or_right}

-- ---- each

module _ {X : Type 0} where
  pub each_both : (P : X → Type 0) (xs ys : List X) → AllByRecursion P xs → AllByRecursion P ys → AllByRecursion P (xs ++ ys)
  each_both P [] ys a b = b
  each_both P (x ∷ xs) ys (here, a) b = (here, each_both P xs ys a b)

  each_of : (P : X → Type 0) (f : ℕ → X) (ks : List ℕ) → AllByRecursion (λ k. P (f k)) ks → AllByRecursion P (map f ks)
  each_of P f [] all = tt
  each_of P f (k ∷ ks) (here, all) = (here, each_of P f ks all)

  each_in : (P : X → Type 0) (f : ℕ → List X) (ks : List ℕ) → AllByRecursion (λ k. AllByRecursion P (f k)) ks → AllByRecursion P (flat_map f ks)
  each_in P f [] all = tt
  each_in P f (k ∷ ks) (here, all) = each_both P (f k) (flat_map f ks) here (each_in P f ks all)

pub each_below : (P : ℕ → Type 0) (n : ℕ) → ((k : ℕ) → k < n → P k) → AllByRecursion P (upto n)
unfolding upto
each_below P zero f = tt
each_below P (suc n) f = each_both P (upto n) (n ∷ []) (each_below P n (λ k lt. f k (omega arith))) (f n (omega arith), tt)

pub each_dir : (P : Row → Type 0) (n : ℕ) → ((i : ℕ) → i < n → P (dir_row i)) → AllByRecursion P (dirs n)
each_dir P n f = each_of P dir_row (upto n) (each_below (λ i. P (dir_row i)) n f)

pub each_file : (P : Row → Type 0) (m i n : ℕ) → ((j : ℕ) → j < n → P (file_row m i j)) → AllByRecursion P (files_of m i n)
each_file P m i n f = each_of P (file_row m i) (upto n) (each_below (λ j. P (file_row m i j)) n f)

pub each_below_dir : (P : Row → Type 0) (m n : ℕ) → ((i j : ℕ) → i < n → j < m → P (file_row m i j)) → AllByRecursion P (files_below m n)
each_below_dir P m n f = each_in P (λ i. files_of m i m) (upto n) (each_below (λ i. AllByRecursion P (files_of m i m)) n (λ i lt. each_file P m i m (λ j less. f i j lt less)))

-- what holds of the root, of each directory and of each file holds of each row
pub each_row : (P : Row → Type 0) (n m : ℕ) → P root_row → ((i : ℕ) → i < n → P (dir_row i)) → ((i j : ℕ) → i < n → j < m → P (file_row m i j))
    → AllByRecursion P (root_row ∷ (dirs n ++ files_below m n))
each_row P n m root dir file = (root, each_both P (dirs n) (files_below m n) (each_dir P n dir) (each_below_dir P m n file))

pub each_so_far : (P : Row → Type 0) (n m i j : ℕ) → P root_row → ((k : ℕ) → k < n → P (dir_row k)) → ((k l : ℕ) → k < i → l < m → P (file_row m k l))
    → ((l : ℕ) → l < j → P (file_row m i l)) → AllByRecursion P (rows_so_far n m i j)
each_so_far P n m i j root dir below file = (
  root,
  each_both P (dirs n) (files_below m i ++ files_of m i j) (each_dir P n dir)
      (each_both P (files_below m i) (files_of m i j) (each_below_dir P m i below) (each_file P m i j file)),
)

-- ---- some

or_more : (a b c : Bool) → (a || b) ≡ true → (b ≡ true → c ≡ true) → (a || c) ≡ true
or_more true b c e f = refl
or_more false b c e f = f e

pub left_out : (a b : Bool) → a ≡ false → (a || b) ≡ true → b ≡ true
left_out true b f e = cc
left_out false b f e = e

module _ {X : Type 0} where
  some_left : (p : X → Bool) (xs ys : List X) → list_any p xs ≡ true → list_any p (xs ++ ys) ≡ true
  some_left p [] ys e = cc
  some_left p (x ∷ xs) ys e = or_more (p x) (list_any p xs) (list_any p (xs ++ ys)) e (some_left p xs ys)

  some_right : (p : X → Bool) (xs ys : List X) → list_any p ys ≡ true → list_any p (xs ++ ys) ≡ true
  some_right p [] ys e = e
  some_right p (x ∷ xs) ys e = or_right (p x) (list_any p (xs ++ ys)) (some_right p xs ys e)

  some_of : (p : X → Bool) (f : ℕ → X) (ks : List ℕ) → list_any (λ k. p (f k)) ks ≡ true → list_any p (map f ks) ≡ true
  some_of p f [] e = e
  some_of p f (k ∷ ks) e = or_more (p (f k)) (list_any (λ k. p (f k)) ks) (list_any p (map f ks)) e (some_of p f ks)

  in_either : (p : X → Bool) (xs ys : List X) (a : Bool) → list_any p xs ≡ a → (a ≡ false → list_any p ys ≡ true) → list_any p (xs ++ ys) ≡ true
  in_either p xs ys true here later = some_left p xs ys here
  in_either p xs ys false here later = some_right p xs ys (later refl)

  some_in : (p : X → Bool) (f : ℕ → List X) (ks : List ℕ) → list_any (λ k. list_any p (f k)) ks ≡ true → list_any p (flat_map f ks) ≡ true
  some_in p f [] e = e
  some_in p f (k ∷ ks) e = in_either p (f k) (flat_map f ks) (list_any p (f k)) refl
      (λ here. some_in p f ks (left_out (list_any p (f k)) (list_any (λ k. list_any p (f k)) ks) here e))

same_or_below : (k n : ℕ) → k < suc n → (k ≡ n) ⊎ (k < n)
same_or_below k n lt = grind arith

below_by : (p : ℕ → Bool) (n k : ℕ) → p k ≡ true → (k < n → list_any p (upto n) ≡ true) → (k ≡ n) ⊎ (k < n) → list_any p (upto n ++ n ∷ []) ≡ true
below_by p n k e more (inl same) = let here : p n ≡ true = ap p (sym same) ∙ e in some_right p (upto n) (n ∷ []) (rw here refl)
below_by p n k e more (inr less) = some_left p (upto n) (n ∷ []) (more less)

pub some_below : (p : ℕ → Bool) (n k : ℕ) → k < n → p k ≡ true → list_any p (upto n) ≡ true
unfolding upto
some_below p zero k lt e = absurd (omega arith)
some_below p (suc n) k lt e = below_by p n k e (λ less. some_below p n k less e) (same_or_below k n lt)

pub some_dir : (p : Row → Bool) (n i : ℕ) (rest : List Row) → i < n → p (dir_row i) ≡ true → list_any p (root_row ∷ (dirs n ++ rest)) ≡ true
some_dir p n i rest lt e = or_right (p root_row) (list_any p (dirs n ++ rest))
    (some_left p (dirs n) rest (some_of p dir_row (upto n) (some_below (λ i. p (dir_row i)) n i lt e)))

pub some_file : (p : Row → Bool) (n m i j : ℕ) → i < n → j < m → p (file_row m i j) ≡ true → list_any p (root_row ∷ (dirs n ++ files_below m n)) ≡ true
some_file p n m i j lt less e = or_right (p root_row) (list_any p (dirs n ++ files_below m n))
    (some_right p (dirs n) (files_below m n) (some_in p (λ i. files_of m i m) (upto n)
    (some_below (λ i. list_any p (files_of m i m)) n i lt (some_of p (file_row m i) (upto m) (some_below (λ j. p (file_row m i j)) m j less e)))))

-- ---- the first

-- what one row alone passes is found to be that row
pub find_only : (p : Row → Bool) (target : Row) (all : List Row) → AllByRecursion (λ row. p row ≡ true → row ≡ target) all → list_any p all ≡ true → find p all ≡ Some target
find_only p target [] each some = cc
find_only p target (row ∷ all) (here, each) some = only_by (p row) row (list_any p all) (find p all) here some (find_only p target all each)
  where
    only_by : (b : Bool) (row : Row) (c : Bool) (found : Option Row) → (b ≡ true → row ≡ target) → (b || c) ≡ true → (c ≡ true → found ≡ Some target)
        → cond b (Some row) found ≡ Some target
    only_by true row c found here some rest = ap (λ (r : Row). Some r) (here refl)
    only_by false row c found here some rest = rest some

pub find_none : (p : Row → Bool) (all : List Row) → AllByRecursion (λ row. p row ≡ false) all → find p all ≡ None
find_none p [] each = refl
find_none p (row ∷ all) (here, each) = rw here (find_none p all each)

pub none_any : (p : Row → Bool) (all : List Row) → AllByRecursion (λ row. p row ≡ false) all → list_any p all ≡ false
none_any p [] each = refl
none_any p (row ∷ all) (here, each) = rw here (none_any p all each)
