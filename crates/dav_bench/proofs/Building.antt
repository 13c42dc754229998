-- How the tree of the large input grows, row by row: each row may be added, and no two names fold alike.
use Rattle.std.proofs.Common.{◌≡◌, ℕ, zero, suc, ◌+◌, ◌*◌, ◌==◌, ◌<◌, ◌≤◌, true, false, not, List, [], ◌∷◌, ◌++◌, map, flat_map, Some, refl, sym, ap, ◌∙◌, arith, append_assoc, append-nil, add-one}
use Rattle.std.proofs.lemmas.Bool.{and_parts, and_from}
use Rattle.std.proofs.lemmas.Bool.Decides.{nat_tests}
use Rattle.std.specs.Option.{is_none}
use Rattle.std.specs.List.{AllByRecursion, list_any, list_all}
use Rattle.dav_core.specs.declared.tree.Row.{Row}
use Rattle.dav_core.specs.Changes.{is_free_in}
use Rattle.dav_core.specs.Path.{same_names}
use Rattle.dav_core.specs.Tree.{row_at, has_dir, is_dir_row}
use Rattle.dav_core.proofs.Plain.{names_same as same}
use Rattle.dav_model.specs.Folds.{fold_name, fold_path}
use Rattle.dav_model.specs.Valid.{are_twins, no_twins}
use Rattle.dav_model.proofs.LooseWalks.{names_equal}
use Rattle.dav_bench.specs.Names.{dir_name, file_name, dir_path, file_path}
use Rattle.dav_bench.specs.Tree.{upto, root_row, dir_row, file_row, dirs, files_of, files_below, rows, rows_so_far}
use Rattle.dav_bench.proofs.Apart.{alike_dirs, alike_files, heads, longer, no_twin, same_dir, same_file, tails}
use Rattle.dav_bench.proofs.Lists.{each_so_far, find_none, find_only, none_any, some_dir}
use Rattle.dav_bench.proofs.Standing.{few, small}
use Rattle.dav_core.proofs.Paths.{names_differ}

-- ---- one row more

map_both : {X : Type 0} (f : ℕ → X) (xs ys : List ℕ) → map f (xs ++ ys) ≡ map f xs ++ map f ys
map_both f [] ys = refl
map_both f (x ∷ xs) ys = ap (λ zs. f x ∷ zs) (map_both f xs ys)

flat_both : {X : Type 0} (f : ℕ → List X) (xs ys : List ℕ) → flat_map f (xs ++ ys) ≡ flat_map f xs ++ flat_map f ys
flat_both f [] ys = refl
flat_both f (x ∷ xs) ys = ap (λ zs. f x ++ zs) (flat_both f xs ys) ∙ sym (append_assoc (f x) (flat_map f xs) (flat_map f ys))

pub dirs_more : (n : ℕ) → dirs (n + 1) ≡ dirs n ++ dir_row n ∷ []
unfolding upto
dirs_more n = rw add-one (map_both dir_row (upto n) (n ∷ []))

pub files_more : (m i n : ℕ) → files_of m i (n + 1) ≡ files_of m i n ++ file_row m i n ∷ []
unfolding upto
files_more m i n = rw add-one (map_both (file_row m i) (upto n) (n ∷ []))

below_more : (m n : ℕ) → files_below m (n + 1) ≡ files_below m n ++ files_of m n m
unfolding upto
below_more m n = rw add-one (flat_both (λ i. files_of m i m) (upto n) (n ∷ []) ∙ ap (λ z. files_below m n ++ z) (append-nil (files_of m n m)))

-- no directory yet, and no file
pub rows_at_first : (m : ℕ) → rows_so_far 0 m 0 0 ≡ root_row ∷ []
unfolding upto
rows_at_first m = refl

no_files_yet : (m : ℕ) (xs : List Row) → xs ++ (files_below m 0 ++ files_of m 0 0) ≡ xs
unfolding upto
no_files_yet m xs = append-nil xs

no_file_yet : (m i : ℕ) (xs : List Row) → xs ++ files_of m i 0 ≡ xs
unfolding upto
no_file_yet m i xs = append-nil xs

pub dir_more : (n m : ℕ) → rows_so_far (n + 1) m 0 0 ≡ rows_so_far n m 0 0 ++ dir_row n ∷ []
dir_more n m = ap (λ z. root_row ∷ z) (no_files_yet m (dirs (n + 1)) ∙ (dirs_more n ∙ sym (ap (λ z. z ++ dir_row n ∷ []) (no_files_yet m (dirs n)))))

pub file_more : (n m i j : ℕ) → rows_so_far n m i (j + 1) ≡ rows_so_far n m i j ++ file_row m i j ∷ []
file_more n m i j =
    ap (λ z. root_row ∷ (dirs n ++ (files_below m i ++ z))) (files_more m i j)
    ∙ ap (λ z. root_row ∷ z) (ap (λ z. dirs n ++ z) (sym (append_assoc (files_below m i) (files_of m i j) (file_row m i j ∷ [])))
    ∙ sym (append_assoc (dirs n) (files_below m i ++ files_of m i j) (file_row m i j ∷ [])))

pub next_dir : (n m i : ℕ) → rows_so_far n m i m ≡ rows_so_far n m (i + 1) 0
next_dir n m i = ap (λ z. root_row ∷ (dirs n ++ z)) (sym (below_more m i) ∙ sym (no_file_yet m (i + 1) (files_below m (i + 1))))

pub rows_at_last : (m : ℕ) → rows_so_far 8 m 8 0 ≡ rows m
rows_at_last m = ap (λ z. root_row ∷ (dirs 8 ++ z)) (no_file_yet m 8 (files_below m 8))

-- ---- no twins

none_twin : (row : Row) (all : List Row) → AllByRecursion (λ other. are_twins other row ≡ false) all → no_twins all ≡ true → no_twins (all ++ row ∷ []) ≡ true
none_twin row [] each old = refl
none_twin row (other ∷ all) (here, each) old =
    let parts = and_parts (list_all (λ r. not (are_twins other r)) all) (no_twins all) old in
    and_from (list_all (λ r. not (are_twins other r)) (all ++ row ∷ [])) (no_twins (all ++ row ∷ [])) (more all parts.0) (none_twin row all each parts.1)
  where
    more : (xs : List Row) → list_all (λ r. not (are_twins other r)) xs ≡ true → list_all (λ r. not (are_twins other r)) (xs ++ row ∷ []) ≡ true
    more [] e = rw here refl
    more (x ∷ xs) e = let p = and_parts (not (are_twins other x)) (list_all (λ r. not (are_twins other r)) xs) e in
        and_from (not (are_twins other x)) (list_all (λ r. not (are_twins other r)) (xs ++ row ∷ [])) p.0 (more xs p.1)

-- rows that stand before a directory, and before a file
not_same : (k n : ℕ) → k < n → k ≡ n → ⊥
not_same k n lt e = omega arith

dir_single : (m n : ℕ) → n < 8 → AllByRecursion (λ other. are_twins other (dir_row n) ≡ false) (rows_so_far n m 0 0)
dir_single m n lt = each_so_far (λ other. are_twins other (dir_row n) ≡ false) n m 0 0
    (no_twin root_row (dir_row n) (λ t. let e : 0 ≡ 1 = longer (fold_path []) (fold_path (dir_path n)) t.folded in omega arith))
    (λ k less. no_twin (dir_row k) (dir_row n) (λ t. not_same k n less (alike_dirs k n (few k (omega arith)) (few n lt) (heads (fold_name (dir_name k)) (fold_name (dir_name n)) [] [] t.folded))))
    (λ k l less few. absurd (omega arith))
    (λ l less. absurd (omega arith))

file_single : (m i j : ℕ) → m ≤ 400 → i < 8 → j < m → AllByRecursion (λ other. are_twins other (file_row m i j) ≡ false) (rows_so_far 8 m i j)
file_single m i j most it jt = each_so_far (λ other. are_twins other (file_row m i j) ≡ false) 8 m i j
    (no_twin root_row (file_row m i j) (λ t. let e : 0 ≡ 2 = longer (fold_path []) (fold_path (file_path i j)) t.folded in omega arith))
    (λ k less. no_twin (dir_row k) (file_row m i j) (λ t. let e : 1 ≡ 2 = longer (fold_path (dir_path k)) (fold_path (file_path i j)) t.folded in omega arith))
    (λ k l less lt. no_twin (file_row m k l) (file_row m i j) (λ t. not_same k i less (same_dir k i (few k (omega arith)) (few i it) (heads (dir_name k) (dir_name i) [] [] t.parent))))
    (λ l less. no_twin (file_row m i l) (file_row m i j) (λ t. not_same l j less (alike_files l j (small l m (omega arith) most) (small j m jt most)
    (heads (fold_name (file_name l)) (fold_name (file_name j)) [] [] (tails (fold_name (dir_name i)) (fold_name (dir_name i)) (fold_name (file_name l) ∷ []) (fold_name (file_name j) ∷ []) t.folded)))))

dirs_apart : (m n : ℕ) → n ≤ 8 → no_twins (rows_so_far n m 0 0) ≡ true
dirs_apart m zero le = ap no_twins (rows_at_first m)
dirs_apart m (suc n) le =
    let e : rows_so_far (suc n) m 0 0 ≡ rows_so_far n m 0 0 ++ dir_row n ∷ [] = ap (λ z. rows_so_far z m 0 0) (sym (add-one n)) ∙ dir_more n m in
    ap no_twins e ∙ none_twin (dir_row n) (rows_so_far n m 0 0) (dir_single m n (omega arith)) (dirs_apart m n (omega arith))

files_apart : (m i j : ℕ) → m ≤ 400 → i < 8 → j ≤ m → no_twins (rows_so_far 8 m i 0) ≡ true → no_twins (rows_so_far 8 m i j) ≡ true
files_apart m i zero most it le before = before
files_apart m i (suc j) most it le before =
    let e : rows_so_far 8 m i (suc j) ≡ rows_so_far 8 m i j ++ file_row m i j ∷ [] = ap (λ z. rows_so_far 8 m i z) (sym (add-one j)) ∙ file_more 8 m i j in
    ap no_twins e ∙ none_twin (file_row m i j) (rows_so_far 8 m i j) (file_single m i j most it (omega arith)) (files_apart m i j most it (omega arith) before)

all_apart : (m i : ℕ) → m ≤ 400 → i ≤ 8 → no_twins (rows_so_far 8 m i 0) ≡ true
all_apart m zero most le = dirs_apart m 8 (omega arith)
all_apart m (suc i) most le =
    let e : rows_so_far 8 m (suc i) 0 ≡ rows_so_far 8 m i m = ap (λ z. rows_so_far 8 m z 0) (sym (add-one i)) ∙ sym (next_dir 8 m i) in
    ap no_twins e ∙ files_apart m i m most (omega arith) (omega arith) (all_apart m i most (omega arith))

pub rows_have_no_twins : (m : ℕ) → m ≤ 400 → no_twins (rows m) ≡ true
rows_have_no_twins m most = sym (ap no_twins (rows_at_last m)) ∙ all_apart m 8 most (omega arith)

-- ---- a row may be added

pub dir_is_free : (m n : ℕ) → n < 8 → is_free_in (rows_so_far n m 0 0) (dir_path n) ≡ true
dir_is_free m n lt = ap is_none (find_none (λ row. same_names (dir_path n) row.path) (rows_so_far n m 0 0)
    (each_so_far (λ row. same_names (dir_path n) row.path ≡ false) n m 0 0
    refl
    (λ k less. names_differ (dir_path n) (dir_path k) (λ e. not_same k n less (sym (same_dir n k (few n lt) (few k (omega arith)) (heads (dir_name n) (dir_name k) [] [] e)))))
    (λ k l less few. absurd (omega arith))
    (λ l less. absurd (omega arith))))

dir_stands : (m i j k : ℕ) → k < 8 → row_at (rows_so_far 8 m i j) (dir_path k) ≡ Some (dir_row k)
dir_stands m i j k lt = find_only (λ row. same_names (dir_path k) row.path) (dir_row k) (rows_so_far 8 m i j) (each_so_far (λ row. same_names (dir_path k) row.path ≡ true → row ≡ dir_row k) 8 m i j
    (λ e. cc)
    (λ n less e. ap dir_row (same_dir n k (few n less) (few k lt) (sym (heads (dir_name k) (dir_name n) [] [] (same (dir_path k) (dir_path n) e)))))
    (λ n l less few e. let f : 1 ≡ 2 = longer (dir_path k) (file_path n l) (same (dir_path k) (file_path n l) e) in absurd (omega arith))
    (λ l less e. let f : 1 ≡ 2 = longer (dir_path k) (file_path i l) (same (dir_path k) (file_path i l) e) in absurd (omega arith)))
    (some_dir (λ row. same_names (dir_path k) row.path) 8 k (files_below m i ++ files_of m i j) lt (names_equal (dir_path k) (dir_path k) refl))

pub file_is_free : (m i j : ℕ) → m ≤ 400 → i < 8 → j < m → is_free_in (rows_so_far 8 m i j) (file_path i j) ≡ true
file_is_free m i j most it jt = and_from (has_dir (rows_so_far 8 m i j) (dir_path i)) (is_none (row_at (rows_so_far 8 m i j) (file_path i j)))
    (ap is_dir_row (dir_stands m i j i it))
    (ap is_none (find_none (λ row. same_names (file_path i j) row.path) (rows_so_far 8 m i j)
    (each_so_far (λ row. same_names (file_path i j) row.path ≡ false) 8 m i j
    refl
    (λ k less. names_differ (file_path i j) (dir_path k) (λ e. let f : 2 ≡ 1 = longer (file_path i j) (dir_path k) e in omega arith))
    (λ k l less lt. names_differ (file_path i j) (file_path k l) (λ e. not_same k i less (sym (same_dir i k (few i it) (few k (omega arith)) (heads (dir_name i) (dir_name k) (file_name j ∷ []) (file_name l ∷ []) e)))))
    (λ l less. names_differ (file_path i j) (file_path i l) (λ e. not_same l j less (sym (same_file j l (small j m jt most) (small l m (omega arith) most)
    (heads (file_name j) (file_name l) [] [] (tails (dir_name i) (dir_name i) (file_name j ∷ []) (file_name l ∷ []) e)))))))))

-- a number above all numbers so far is new
other_number : (a b : ℕ) → b < a → (a == b) ≡ false
other_number a b lt = grind (arith, nat_tests)

pub dir_number_is_new : (m n : ℕ) → list_any (λ (row : Row). (2 + n) == row.number) (rows_so_far n m 0 0) ≡ false
dir_number_is_new m n = none_any (λ row. (2 + n) == row.number) (rows_so_far n m 0 0) (each_so_far (λ row. ((2 + n) == row.number) ≡ false) n m 0 0
    (other_number (2 + n) 1 (omega arith))
    (λ k less. other_number (2 + n) (2 + k) (omega arith))
    (λ k l less few. absurd (omega arith))
    (λ l less. absurd (omega arith)))

pub earlier_dir : (m k i l j : ℕ) → k < i → l < m → k * m + l < i * m + j
earlier_dir m k i l j lt less = let le : (k + 1) * m ≤ i * m = mul_le (k + 1) i m (omega arith) in omega arith
  where
    mul_le : (a b c : ℕ) → a ≤ b → a * c ≤ b * c
    mul_le a b c h = grind arith

pub file_number_is_new : (m i j : ℕ) → list_any (λ (row : Row). (10 + (i * m + j)) == row.number) (rows_so_far 8 m i j) ≡ false
file_number_is_new m i j = none_any (λ row. (10 + (i * m + j)) == row.number) (rows_so_far 8 m i j) (each_so_far (λ row. ((10 + (i * m + j)) == row.number) ≡ false) 8 m i j
    (other_number (10 + (i * m + j)) 1 (omega arith))
    (λ k less. other_number (10 + (i * m + j)) (2 + k) (omega arith))
    (λ k l less lt. other_number (10 + (i * m + j)) (10 + (k * m + l)) (let e = earlier_dir m k i l j less lt in omega arith))
    (λ l less. other_number (10 + (i * m + j)) (10 + (i * m + l)) (omega arith)))
