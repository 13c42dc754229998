-- Rows of a tree: which row a path finds, the parts of a tree, and what stands in a directory.
use Rattle.std.proofs.Common.{◌≡◌, ◌==◌, ◌+◌, ◌&&◌, ◌||◌, ◌++◌, inl, inr, ℕ, Bool, true, false, not, cond, List, [], ◌∷◌, length, take, Option, None, Some, refl, sym, ap, ◌∙◌, length-append, arith, eqb-true}
use Rattle.std.specs.List.{list_all}
use Rattle.std.proofs.lemmas.Bool.{and_parts, and_from, eq-eqb, not-true, or_left, or_right}
use Rattle.std.proofs.Math.Seq.{take-append_seam}
use Rattle.dav_core.specs.declared.tree.Kind.{Kind}
use Rattle.dav_core.specs.declared.tree.Kind.TheVariants.{Dir, File, Link}
use Rattle.dav_core.specs.declared.tree.Row.{Row}
use Rattle.dav_core.specs.DavPath.{last_name}
use Rattle.dav_core.specs.Listing.{name_of, or_empty, stands_in}
use Rattle.dav_core.specs.Path.{Names, is_front, same_names}
use Rattle.dav_core.specs.Tree.{has_dir, is_apart, is_dir, is_dir_row, is_file, is_free, is_link, is_placed, is_tree, row_at}
use Rattle.dav_core.specs.World.{is_numbered}
use Rattle.dav_core.proofs.Elements.{In, all_at}
use Rattle.dav_core.proofs.Paths.{last_at, last_pushed, names_equal, names_same}

-- ---- kinds

pub dir_kind : (k : Kind) → is_dir k ≡ true → k ≡ Dir
dir_kind Dir e = refl
dir_kind File e = cc
dir_kind Link e = cc

pub file_kind : (k : Kind) → is_file k ≡ true → k ≡ File
file_kind Dir e = cc
file_kind File e = refl
file_kind Link e = cc

pub other_kind : (k : Kind) → is_dir k ≡ false → is_link k ≡ false → k ≡ File
other_kind Dir e f = cc
other_kind File e f = refl
other_kind Link e f = cc

pub dir_row : (o : Option Row) → is_dir_row o ≡ true → (d : Row) × (o ≡ Some d) × (d.kind ≡ Dir)
dir_row None e = cc
dir_row (Some d) e = (d, refl, dir_kind d.kind e)

-- ---- the row that is found first

pub first_some : (b : Bool) (r row : Row) (o : Option Row) → b ≡ true → cond b (Some r) o ≡ Some row → r ≡ row
first_some true r row o e f = cc
first_some false r row o e f = cc

pub first_none : (b : Bool) (r : Row) (o : Option Row) → cond b (Some r) o ≡ None → (b ≡ false) × (o ≡ None)
first_none true r o e = cc
first_none false r o e = (refl, e)

pub next_some : (b : Bool) (r row : Row) (o : Option Row) → b ≡ false → cond b (Some r) o ≡ Some row → o ≡ Some row
next_some true r row o e f = cc
next_some false r row o e f = f

-- what a path finds is a row with that path
pub row_at_in : (rows : List Row) (path : Names) (row : Row) → row_at rows path ≡ Some row → In row rows × (row.path ≡ path)
row_at_in [] path row e = cc
row_at_in (r ∷ rows) path row e = by (same_names path r.path) refl (row_at_in rows path row)
  where
    by : (b : Bool) → same_names path r.path ≡ b → (row_at rows path ≡ Some row → In row rows × (row.path ≡ path)) → In row (r ∷ rows) × (row.path ≡ path)
    by true t more =
        let same : r ≡ row = first_some (same_names path r.path) r row (row_at rows path) t e in
        (inl (sym same), sym (names_same path r.path t ∙ ap (λ (x : Row). x.path) same))
    by false t more = let (i, is) = more (next_some (same_names path r.path) r row (row_at rows path) t e) in (inr i, is)

-- where no two rows have one path, each is found at its own
pub in_row_at : (rows : List Row) (row : Row) → is_apart rows ≡ true → In row rows → row_at rows row.path ≡ Some row
in_row_at [] row apart i = absurd i
in_row_at (r ∷ rows) row apart (inl same) =
    ap (λ b. cond b (Some r) (row_at rows row.path)) (names_equal row.path r.path (ap (λ (x : Row). x.path) same)) ∙ ap (λ (x : Row). Some x) (sym same)
in_row_at (r ∷ rows) row apart (inr i) =
    let p = and_parts (is_free rows r) (is_apart rows) apart in
    let free = all_at (λ (other : Row). not (same_names other.path r.path) && not (other.number == r.number)) rows row p.0 i in
    let other = not-true (same_names row.path r.path) (and_parts (not (same_names row.path r.path)) (not (row.number == r.number)) free).0 in
    ap (λ b. cond b (Some r) (row_at rows row.path)) other ∙ in_row_at rows row p.1 i

pub numbered_in : (rows : List Row) (row : Row) → In row rows → is_numbered rows row.number ≡ true
numbered_in [] row i = absurd i
numbered_in (r ∷ rows) row (inl same) = or_left (row.number == r.number) (is_numbered rows row.number) (eq-eqb row.number r.number (ap (λ (x : Row). x.number) same))
numbered_in (r ∷ rows) row (inr i) = or_right (row.number == r.number) (is_numbered rows row.number) (numbered_in rows row i)

-- ---- the parts of a tree

pub record IsTree (tree : List Row) : Type 0 where
  pub root : has_dir tree [] ≡ true
  pub placed : list_all (is_placed tree) tree ≡ true
  pub apart : is_apart tree ≡ true

pub tree_parts : (tree : List Row) → is_tree tree ≡ true → IsTree tree
tree_parts tree e =
    let t = and_parts (has_dir tree []) (list_all (is_placed tree) tree && is_apart tree) e in
    let u = and_parts (list_all (is_placed tree) tree) (is_apart tree) t.1 in
    record { root = t.0; placed = u.0; apart = u.1 }

-- ---- what stands in a directory

-- the name of a row in a directory
pub name_pushed : (dir : Names) (name : List ℕ) (row : Row) → row.path ≡ dir ++ name ∷ [] → name_of row ≡ name
name_pushed dir name row path = ap (λ p. or_empty (last_name p)) path ∙ ap or_empty (last_pushed dir name)

pub stands_there : (dir : Names) (name : List ℕ) (row : Row) → row.path ≡ dir ++ name ∷ [] → stands_in dir row ≡ true
stands_there dir name row path = and_from _ _ (eq-eqb (length row.path) (length dir + 1) (ap length path ∙ length-append dir (name ∷ [])))
    (names_equal dir (take (length dir) row.path) (sym (ap (take (length dir)) path ∙ take-append_seam dir (name ∷ []))))

pub path_in : (dir : Names) (row : Row) → stands_in dir row ≡ true → row.path ≡ dir ++ name_of row ∷ []
path_in dir row stands =
    let (long, front) = and_parts (length row.path == length dir + 1) (is_front dir row.path) stands in
    let (x, is) = last_at row.path (length dir) (eqb-true (length row.path) (length dir + 1) long) in
    let path : row.path ≡ dir ++ x ∷ [] = is ∙ ap (λ z. z ++ x ∷ []) (sym (names_same dir (take (length dir) row.path) front)) in
    path ∙ ap (λ n. dir ++ n ∷ []) (sym (name_pushed dir x row path))
