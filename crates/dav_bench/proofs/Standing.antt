-- What stands in the tree of the large input, and where a path is found that asks for it.
use Rattle.std.proofs.Common.{◌≡◌, ℕ, ◌<◌, ◌≤◌, ◌^◌, ◌&&◌, true, false, [], ◌∷◌, None, Some, Ok, refl, sym, ap, ap₂, ◌∙◌, arith}
use Rattle.std.specs.List.{find}
use Rattle.dav_core.proofs.Plain.{names_same as same}
use Rattle.dav_core.specs.Path.{Names, same_names, parent_of, is_front}
use Rattle.dav_core.specs.Tree.{row_at, look, is_linked, is_link, below, standing}
use Rattle.dav_model.specs.Finding.{is_alike, member, member_or, on_from, resolved_from}
use Rattle.dav_model.specs.Folds.{fold_name, fold_path, folds_like}
use Rattle.dav_model.proofs.LooseWalks.{names_equal}
use Rattle.dav_bench.specs.Names.{dir_name, file_name, dir_path, file_path, asked_dir, asked_file, asked_path}
use Rattle.dav_bench.specs.Tree.{root_row, dir_row, file_row, files_below, rows}
use Rattle.dav_bench.proofs.Apart.{AreAlike, alike_parts, alike_dirs, alike_files, dir_asked, file_asked, heads, longer, not_asked_dir, not_asked_file, same_dir, same_file, tails}
use Rattle.dav_bench.proofs.Lists.{each_row, find_none, find_only, none_any, some_dir, some_file}
use Rattle.std.proofs.lemmas.Bool.{or_right, and_from}
use Rattle.dav_core.proofs.Paths.{names_differ}

-- numbers that are written as they are
pub small : (n m : ℕ) → n < m → m ≤ 400 → n < 2 ^ 64
small n m lt le = omega arith

pub few : (n : ℕ) → n < 8 → n < 2 ^ 64
few n lt = small n 8 lt (omega arith)

-- ---- a directory that is asked for

asked_dir_at : (i : ℕ) (m : ℕ) → row_at (rows m) (asked_dir i ∷ []) ≡ None
asked_dir_at i m = find_none (λ row. same_names (asked_dir i ∷ []) row.path) (rows m) (each_row (λ row. same_names (asked_dir i ∷ []) row.path ≡ false) 8 m
    refl
    (λ k lt. names_differ (asked_dir i ∷ []) (dir_path k) (λ e. not_asked_dir i k (heads (asked_dir i) (dir_name k) [] [] e)))
    (λ k l lt less. names_differ (asked_dir i ∷ []) (file_path k l) (λ e. let n : 1 ≡ 2 = longer (asked_dir i ∷ []) (file_path k l) e in omega arith)))

dir_is : (i k : ℕ) → i < 8 → k < 8 → AreAlike [] (asked_dir i) (dir_row k) → dir_row k ≡ dir_row i
dir_is i k lt less a =
    let e : fold_name (dir_name k) ≡ fold_name (asked_dir i) = heads (fold_name (dir_name k)) (fold_name (asked_dir i)) [] [] a.folded in
    let same : k ≡ i = alike_dirs k i (few k less) (few i lt) (e ∙ sym (dir_asked i (few i lt))) in
    ap dir_row same

dir_alike : (i : ℕ) → i < 8 → is_alike true [] (asked_dir i) (dir_row i) ≡ true
dir_alike i lt =
    let e : fold_path (dir_path i) ≡ fold_path (asked_dir i ∷ []) = ap (λ n. n ∷ []) (dir_asked i (few i lt)) in
    or_right (same_names (asked_dir i ∷ []) (dir_path i)) (same_names (parent_of (dir_path i)) [] && folds_like (dir_path i) (asked_dir i ∷ []))
    (and_from (same_names (parent_of (dir_path i)) []) (folds_like (dir_path i) (asked_dir i ∷ [])) refl (names_equal (fold_path (dir_path i)) (fold_path (asked_dir i ∷ [])) e))

asked_dir_like : (i m : ℕ) → i < 8 → find (is_alike true [] (asked_dir i)) (rows m) ≡ Some (dir_row i)
asked_dir_like i m lt = find_only (is_alike true [] (asked_dir i)) (dir_row i) (rows m) (each_row (λ row. is_alike true [] (asked_dir i) row ≡ true → row ≡ dir_row i) 8 m
    (λ e. let a = alike_parts [] (asked_dir i) root_row (λ f. let n : 1 ≡ 0 = longer (asked_dir i ∷ []) [] f in omega arith) e in
    let n : 0 ≡ 1 = longer (fold_path []) (fold_path (asked_dir i ∷ [])) a.folded in absurd (omega arith))
    (λ k less e. dir_is i k lt less (alike_parts [] (asked_dir i) (dir_row k) (λ f. not_asked_dir i k (heads (asked_dir i) (dir_name k) [] [] f)) e))
    (λ k l less few e. let a = alike_parts [] (asked_dir i) (file_row m k l) (λ f. let n : 1 ≡ 2 = longer (asked_dir i ∷ []) (file_path k l) f in omega arith) e in
    let n : 1 ≡ 0 = longer (parent_of (file_path k l)) [] a.parent in absurd (omega arith)))
    (some_dir (is_alike true [] (asked_dir i)) 8 i (files_below m 8) lt (dir_alike i lt))

member_dir : (i m : ℕ) → i < 8 → member true (rows m) [] (asked_dir i) ≡ Some (dir_path i)
member_dir i m lt = ap₂ member_or (asked_dir_at i m) (asked_dir_like i m lt)

-- ---- a file that is asked for

asked_file_at : (i j m : ℕ) → row_at (rows m) (dir_name i ∷ asked_file j ∷ []) ≡ None
asked_file_at i j m = find_none (λ row. same_names (dir_name i ∷ asked_file j ∷ []) row.path) (rows m) (each_row (λ row. same_names (dir_name i ∷ asked_file j ∷ []) row.path ≡ false) 8 m
    refl
    (λ k lt. names_differ (dir_name i ∷ asked_file j ∷ []) (dir_path k) (λ e. let n : 2 ≡ 1 = longer (dir_name i ∷ asked_file j ∷ []) (dir_path k) e in omega arith))
    (λ k l lt less. names_differ (dir_name i ∷ asked_file j ∷ []) (file_path k l) (λ e.
    not_asked_file j l (heads (asked_file j) (file_name l) [] [] (tails (dir_name i) (dir_name k) (asked_file j ∷ []) (file_name l ∷ []) e)))))

other_file : (i j k l : ℕ) → dir_name i ∷ asked_file j ∷ [] ≡ file_path k l → ⊥
other_file i j k l e = not_asked_file j l (heads (asked_file j) (file_name l) [] [] (tails (dir_name i) (dir_name k) (asked_file j ∷ []) (file_name l ∷ []) e))

file_is : (m i j k l : ℕ) → m ≤ 400 → i < 8 → j < m → k < 8 → l < m → AreAlike (dir_path i) (asked_file j) (file_row m k l) → file_row m k l ≡ file_row m i j
file_is m i j k l most it jt kt lt a =
    let d : k ≡ i = same_dir k i (few k kt) (few i it) (heads (dir_name k) (dir_name i) [] [] a.parent) in
    let e : fold_name (file_name l) ≡ fold_name (asked_file j) = heads (fold_name (file_name l)) (fold_name (asked_file j)) [] []
    (tails (fold_name (dir_name k)) (fold_name (dir_name i)) (fold_name (file_name l) ∷ []) (fold_name (asked_file j) ∷ []) a.folded) in
    let f : l ≡ j = alike_files l j (small l m lt most) (small j m jt most) (e ∙ sym (file_asked j (small j m jt most))) in
    ap₂ (λ (x y : ℕ). file_row m x y) d f

file_alike : (m i j : ℕ) → m ≤ 400 → j < m → is_alike true (dir_path i) (asked_file j) (file_row m i j) ≡ true
file_alike m i j most lt =
    let e : fold_path (file_path i j) ≡ fold_path (dir_name i ∷ asked_file j ∷ []) = ap (λ n. fold_name (dir_name i) ∷ n ∷ []) (file_asked j (small j m lt most)) in
    or_right (same_names (dir_name i ∷ asked_file j ∷ []) (file_path i j)) (same_names (parent_of (file_path i j)) (dir_path i) && folds_like (file_path i j) (dir_name i ∷ asked_file j ∷ []))
    (and_from (same_names (parent_of (file_path i j)) (dir_path i)) (folds_like (file_path i j) (dir_name i ∷ asked_file j ∷ []))
    (names_equal (parent_of (file_path i j)) (dir_path i) refl) (names_equal (fold_path (file_path i j)) (fold_path (dir_name i ∷ asked_file j ∷ [])) e))

asked_file_like : (m i j : ℕ) → m ≤ 400 → i < 8 → j < m → find (is_alike true (dir_path i) (asked_file j)) (rows m) ≡ Some (file_row m i j)
asked_file_like m i j most it jt = find_only (is_alike true (dir_path i) (asked_file j)) (file_row m i j) (rows m) (each_row (λ row. is_alike true (dir_path i) (asked_file j) row ≡ true → row ≡ file_row m i j) 8 m
    (λ e. let a = alike_parts (dir_path i) (asked_file j) root_row (λ f. let n : 2 ≡ 0 = longer (dir_name i ∷ asked_file j ∷ []) [] f in omega arith) e in
    let n : 0 ≡ 1 = longer (parent_of []) (dir_path i) a.parent in absurd (omega arith))
    (λ k less e. let a = alike_parts (dir_path i) (asked_file j) (dir_row k) (λ f. let n : 2 ≡ 1 = longer (dir_name i ∷ asked_file j ∷ []) (dir_path k) f in omega arith) e in
    let n : 0 ≡ 1 = longer (parent_of (dir_path k)) (dir_path i) a.parent in absurd (omega arith))
    (λ k l kt lt e. file_is m i j k l most it jt kt lt (alike_parts (dir_path i) (asked_file j) (file_row m k l) (other_file i j k l) e)))
    (some_file (is_alike true (dir_path i) (asked_file j)) 8 m i j it jt (file_alike m i j most jt))

member_file : (m i j : ℕ) → m ≤ 400 → i < 8 → j < m → member true (rows m) (dir_path i) (asked_file j) ≡ Some (file_path i j)
member_file m i j most it jt = ap₂ member_or (asked_file_at i j m) (asked_file_like m i j most it jt)

-- the path that is asked for is found at the file
pub asked_is_found : (m i j : ℕ) → m ≤ 400 → i < 8 → j < m → resolved_from true (rows m) [] (asked_path i j) ≡ file_path i j
asked_is_found m i j most it jt =
    ap (λ o. on_from o (asked_path i j) (λ next. resolved_from true (rows m) next (asked_file j ∷ []))) (member_dir i m it)
    ∙ ap (λ o. on_from o (dir_name i ∷ asked_file j ∷ []) (λ next. resolved_from true (rows m) next [])) (member_file m i j most it jt)

-- ---- what stands there

dir_there : (m i : ℕ) → i < 8 → row_at (rows m) (dir_path i) ≡ Some (dir_row i)
dir_there m i lt = find_only (λ row. same_names (dir_path i) row.path) (dir_row i) (rows m) (each_row (λ row. same_names (dir_path i) row.path ≡ true → row ≡ dir_row i) 8 m
    (λ e. cc)
    (λ k less e. ap dir_row (same_dir k i (few k less) (few i lt) (sym (heads (dir_name i) (dir_name k) [] [] (same (dir_path i) (dir_path k) e)))))
    (λ k l kt lt e. let n : 1 ≡ 2 = longer (dir_path i) (file_path k l) (same (dir_path i) (file_path k l) e) in absurd (omega arith)))
    (some_dir (λ row. same_names (dir_path i) row.path) 8 i (files_below m 8) lt (names_equal (dir_path i) (dir_path i) refl))

file_there : (m i j : ℕ) → m ≤ 400 → i < 8 → j < m → row_at (rows m) (file_path i j) ≡ Some (file_row m i j)
file_there m i j most it jt = find_only (λ row. same_names (file_path i j) row.path) (file_row m i j) (rows m) (each_row (λ row. same_names (file_path i j) row.path ≡ true → row ≡ file_row m i j) 8 m
    (λ e. cc)
    (λ k less e. let n : 2 ≡ 1 = longer (file_path i j) (dir_path k) (same (file_path i j) (dir_path k) e) in absurd (omega arith))
    (λ k l kt lt e. let f : file_path i j ≡ file_path k l = same (file_path i j) (file_path k l) e in
    let d : k ≡ i = same_dir k i (few k kt) (few i it) (sym (heads (dir_name i) (dir_name k) (file_name j ∷ []) (file_name l ∷ []) f)) in
    let g : l ≡ j = same_file l j (small l m lt most) (small j m jt most) (sym (heads (file_name j) (file_name l) [] [] (tails (dir_name i) (dir_name k) (file_name j ∷ []) (file_name l ∷ []) f))) in
    ap₂ (λ (x y : ℕ). file_row m x y) d g))
    (some_file (λ row. same_names (file_path i j) row.path) 8 m i j it jt (names_equal (file_path i j) (file_path i j) refl))

pub file_stands : (m i j : ℕ) → m ≤ 400 → i < 8 → j < m → look (rows m) (file_path i j) ≡ Ok (file_row m i j)
file_stands m i j most it jt =
    ap (λ r. below r (standing (row_at (rows m) (file_path i j)))) (dir_there m i it) ∙ ap standing (file_there m i j most it jt)

-- no link is met
pub none_linked : (m : ℕ) (path : Names) → is_linked (rows m) path ≡ false
none_linked m path = none_any (λ row. is_link row.kind && is_front row.path path) (rows m) (each_row (λ row. (is_link row.kind && is_front row.path path) ≡ false) 8 m refl (λ i lt. refl) (λ i j lt less. refl))
