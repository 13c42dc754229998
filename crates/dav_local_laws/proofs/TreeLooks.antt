-- In a tree, a look finds what stands at a path.
use Rattle.std.proofs.Common.{◌≡◌, ◌==◌, ◌+◌, ◌-◌, ◌≤◌, ℕ, zero, suc, Bool, true, false, List, [], ◌∷◌, ◌++◌, length, take, Option, None, Some, Result, Ok, refl, sym, ap, subst, ◌∙◌, inl, inr, arith, append_assoc, append-nil, length-append}
use Rattle.std.proofs.Math.Seq.{take-append_seam}
use Rattle.std.proofs.lemmas.Bool.{and_parts}
use Rattle.std.proofs.lemmas.Bool.Decides.{nat_tests}
use Rattle.std.proofs.lemmas.List.{length-take-le}
use Rattle.std.specs.List.{list_all}
use Rattle.dav_io.proofs.Cases.{second_test}
use Rattle.dav_core.specs.declared.handle.DiskError.{DiskError}
use Rattle.dav_core.specs.declared.tree.Kind.{Kind}
use Rattle.dav_core.specs.declared.tree.Kind.TheVariants.{Dir, File, Link}
use Rattle.dav_core.specs.declared.tree.Row.{Row}
use Rattle.dav_core.specs.Listing.{listable}
use Rattle.dav_core.specs.Path.{Names, parent_of, same_names}
use Rattle.dav_core.specs.Tree.{below, below_kind, has_dir, is_dir, is_dir_row, is_placed, is_tree, look, look_from, row_at, standing}
use Rattle.dav_core.proofs.Plain.{names_same}
use Rattle.dav_core.proofs.Rows.{dir_row, tree_parts}
use Rattle.dav_model.specs.Finding.{IsOf}
use Rattle.dav_model.proofs.LooseWalks.{find_row}

-- ---- what stands has its place

all_of : (p : Row → Bool) (rows : List Row) (row : Row) → IsOf row rows → list_all p rows ≡ true → p row ≡ true
all_of p [] row of all = absurd of
all_of p (r ∷ rows) row (inl same) all = ap p same ∙ (and_parts (p r) (list_all p rows) all).0
all_of p (r ∷ rows) row (inr of) all = all_of p rows row of (and_parts (p r) (list_all p rows) all).1

not_empty : (path : Names) → 1 ≤ length path → (length path == 0) ≡ false
not_empty path some = grind (arith, nat_tests)

take_less : (k n : ℕ) (path : Names) → k ≤ n → take k (take n path) ≡ take k path
take_less zero n path le = refl
take_less (suc k) zero path le = absurd (omega arith)
take_less (suc k) (suc n) [] le = refl
take_less (suc k) (suc n) (x ∷ path) le = ap (λ z. x ∷ z) (take_less k n path (omega arith))

module _ (tree : List Row) (is : is_tree tree ≡ true) where
  placed : list_all (is_placed tree) tree ≡ true
  placed = (tree_parts tree is).placed

  -- above what stands is a directory
  parent_dir : (path : Names) (row : Row) → row_at tree path ≡ Some row → 1 ≤ length path → has_dir tree (parent_of path) ≡ true
  parent_dir path row at some =
      let (same, of) = find_row (λ r. same_names path r.path) tree row at in
      let path_is : path ≡ row.path = names_same path row.path same in
      let own = all_of (is_placed tree) tree row of placed in
      ap (λ p. has_dir tree (parent_of p)) path_is
      ∙ second_test (length row.path == 0) (is_dir row.kind) (has_dir tree (parent_of row.path)) (ap (λ p. length p == 0) (sym path_is) ∙ not_empty path some) own

  dirs_above : (k : ℕ) (path : Names) (row : Row) → row_at tree path ≡ Some row → suc k ≤ length path → has_dir tree (take (length path - suc k) path) ≡ true
  dirs_above zero path row at some = parent_dir path row at some
  dirs_above (suc k) path row at some =
      let n = length path - suc k in
      let (d, there, kind) = dir_row (row_at tree (take n path)) (dirs_above k path row at (omega arith)) in
      let long : length (take n path) ≡ n = length-take-le n path (omega arith) in
      let up = parent_dir (take n path) d there (omega arith) in
      let less : length (take n path) - 1 ≡ length path - suc (suc k) = omega arith in
      subst (λ z. has_dir tree z ≡ true) (ap (λ m. take m (take n path)) less ∙ take_less (length path - suc (suc k)) n path (omega arith)) up

  front_dir : (at : Names) (name : List ℕ) (names : Names) (row : Row) → row_at tree (at ++ name ∷ names) ≡ Some row → has_dir tree at ≡ true
  front_dir at name names row there =
      let path = at ++ name ∷ names in
      let long : length path ≡ length at + suc (length names) = length-append at (name ∷ names) in
      let front : length path - suc (length names) ≡ length at = omega (arith, long) in
      subst (λ z. has_dir tree z ≡ true) (ap (λ m. take m path) front ∙ take-append_seam at (name ∷ names)) (dirs_above (length names) path row there (omega (arith, long)))

  through_dir : (o : Option Row) (found : Result Row DiskError) → is_dir_row o ≡ true → below o found ≡ found
  through_dir None found e = cc
  through_dir (Some d) found e = by_kind d.kind e
    where
      by_kind : (kind : Kind) → is_dir kind ≡ true → below_kind kind found ≡ found
      by_kind Dir f = refl
      by_kind File f = cc
      by_kind Link f = cc

  found_from : (at names : Names) (row : Row) → row_at tree (at ++ names) ≡ Some row → look_from tree at names ≡ Ok row
  found_from at [] row there = ap standing (ap (row_at tree) (sym (append-nil at)) ∙ there)
  found_from at (name ∷ names) row there =
      through_dir (row_at tree at) (look_from tree (at ++ name ∷ []) names) (front_dir at name names row there)
      ∙ found_from (at ++ name ∷ []) names row (ap (row_at tree) (append_assoc at (name ∷ []) names) ∙ there)

  listable_kind : (row : Row) → is_dir row.kind ≡ true → listable (Ok row) ≡ Ok row
  listable_kind row e = by_kind row.kind e
    where
      by_kind : (kind : Kind) → is_dir kind ≡ true → below_kind kind (Ok row) ≡ Ok row
      by_kind Dir f = refl
      by_kind File f = cc
      by_kind Link f = cc

  -- A directory of a tree is listed.
  pub dir_listed : (path : Names) → has_dir tree path ≡ true → (row : Row) × (listable (look tree path) ≡ Ok row)
  dir_listed path dir =
      let (row, there, kind) = dir_row (row_at tree path) dir in
      (row, ap listable (found_from [] path row there) ∙ listable_kind row (sym (ap is_dir_row there) ∙ dir))
