-- No two names of the large input are the same, or fold alike.
use Rattle.std.proofs.Common.{◌≡◌, ℕ, ◌<◌, ◌^◌, ◌&&◌, true, false, List, [], ◌∷◌, ◌++◌, length, codes, decimal, sym, ap, ◌∙◌, arith}
use Rattle.std.proofs.lemmas.Bool.{and_parts, false_from_ne_true}
use Rattle.dav_core.specs.declared.tree.Row.{Row}
use Rattle.dav_core.specs.Path.{Names, same_names, parent_of}
use Rattle.dav_core.proofs.Plain.{names_same}
use Rattle.dav_model.specs.Finding.{is_alike}
use Rattle.dav_model.specs.Folds.{Name, fold_name, fold_path, folds_like}
use Rattle.dav_model.specs.Valid.{are_twins}
use Rattle.dav_bench.specs.Names.{dir_name, file_name, asked_dir, asked_file}
use Rattle.dav_bench.proofs.Digits.{same_number}
use Rattle.dav_bench.proofs.Folding.{fold_dir, fold_file, fold_asked_dir, fold_asked_file}
use Rattle.dav_bench.proofs.Lists.{left_out}
use Rattle.dav_core.proofs.Paths.{names_differ}

-- ---- parts of lists

pub longer : (a b : Names) → a ≡ b → length a ≡ length b
longer a b e = ap (λ (z : Names). length z) e

pub heads : (a b : List ℕ) (xs ys : Names) → (a ∷ xs) ≡ (b ∷ ys) → a ≡ b
heads a b xs ys e = cc

pub tails : (a b : List ℕ) (xs ys : Names) → (a ∷ xs) ≡ (b ∷ ys) → xs ≡ ys
tails a b xs ys e = cc

-- ---- names

pub same_dir : (i k : ℕ) → i < 2 ^ 64 → k < 2 ^ 64 → dir_name i ≡ dir_name k → i ≡ k
same_dir i k s t e = same_number (codes "Dir") i k s t e

pub same_file : (i k : ℕ) → i < 2 ^ 64 → k < 2 ^ 64 → file_name i ≡ file_name k → i ≡ k
same_file i k s t e = same_number (codes "File") i k s t e

first_same : (a b : ℕ) (xs ys : List ℕ) → (a ∷ xs) ≡ (b ∷ ys) → a ≡ b
first_same a b xs ys e = cc

apart : (a b : ℕ) → b < a → a ≡ b → ⊥
apart a b lt e = omega arith

-- names as they are asked for aren't names as they stand
pub not_asked_dir : (i k : ℕ) → asked_dir i ≡ dir_name k → ⊥
not_asked_dir i k e = apart 100 68 (omega arith) (first_same 100 68 (codes "ir" ++ decimal i) (codes "ir" ++ decimal k) e)

pub not_asked_file : (i k : ℕ) → asked_file i ≡ file_name k → ⊥
not_asked_file i k e = apart 102 70 (omega arith) (first_same 102 70 (codes "ile" ++ decimal i) (codes "ile" ++ decimal k) e)

-- names that fold alike have one number
pub alike_dirs : (i k : ℕ) → i < 2 ^ 64 → k < 2 ^ 64 → fold_name (dir_name i) ≡ fold_name (dir_name k) → i ≡ k
alike_dirs i k s t e = same_number (codes "dir") i k s t (sym (fold_dir i s) ∙ (e ∙ fold_dir k t))

pub alike_files : (i k : ℕ) → i < 2 ^ 64 → k < 2 ^ 64 → fold_name (file_name i) ≡ fold_name (file_name k) → i ≡ k
alike_files i k s t e = same_number (codes "file") i k s t (sym (fold_file i s) ∙ (e ∙ fold_file k t))

pub dir_asked : (i : ℕ) → i < 2 ^ 64 → fold_name (dir_name i) ≡ fold_name (asked_dir i)
dir_asked i s = fold_dir i s ∙ sym (fold_asked_dir i s)

pub file_asked : (j : ℕ) → j < 2 ^ 64 → fold_name (file_name j) ≡ fold_name (asked_file j)
file_asked j s = fold_file j s ∙ sym (fold_asked_file j s)

-- ---- what is alike

pub record AreAlike (at : Names) (name : Name) (row : Row) : Type 0 where
  pub parent : parent_of row.path ≡ at
  pub folded : fold_path row.path ≡ fold_path (at ++ name ∷ [])

pub alike_parts : (at : Names) (name : Name) (row : Row) → (at ++ name ∷ [] ≡ row.path → ⊥) → is_alike true at name row ≡ true → AreAlike at name row
alike_parts at name row other e =
    let rest : (same_names (parent_of row.path) at && folds_like row.path (at ++ name ∷ [])) ≡ true = left_out (same_names (at ++ name ∷ []) row.path) (same_names (parent_of row.path) at && folds_like row.path (at ++ name ∷ [])) (names_differ (at ++ name ∷ []) row.path other) e in
    let parts = and_parts (same_names (parent_of row.path) at) (folds_like row.path (at ++ name ∷ [])) rest in
    record { parent = names_same (parent_of row.path) at parts.0; folded = names_same (fold_path row.path) (fold_path (at ++ name ∷ [])) parts.1 }

pub record Twins (a b : Row) : Type 0 where
  pub parent : parent_of a.path ≡ parent_of b.path
  pub folded : fold_path a.path ≡ fold_path b.path

twin_parts : (a b : Row) → are_twins a b ≡ true → Twins a b
twin_parts a b e =
    let parts = and_parts (same_names (parent_of a.path) (parent_of b.path)) (folds_like a.path b.path) e in
    record { parent = names_same (parent_of a.path) (parent_of b.path) parts.0; folded = names_same (fold_path a.path) (fold_path b.path) parts.1 }

pub no_twin : (a b : Row) → (Twins a b → ⊥) → are_twins a b ≡ false
no_twin a b f = false_from_ne_true (are_twins a b) (λ e. f (twin_parts a b e))
