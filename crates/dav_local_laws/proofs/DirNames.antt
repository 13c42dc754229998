-- The names that stand in a directory of a tree, by the rows that stand in it.
use Rattle.std.proofs.Common.{◌≡◌, ◌||◌, Bool, true, false, cond, List, [], ◌∷◌, ◌++◌, map, Option, None, Some, refl, sym, ap, ◌∙◌}
use Rattle.std.specs.List.{cons_option, filter, filter_map, list_any}
use Rattle.std.specs.Str.{bytes_eq}
use Rattle.std.proofs.lemmas.Slice.Eq.{bytes_eq-Decides}
use Rattle.dav_core.specs.declared.tree.Row.{Row}
use Rattle.dav_core.specs.Listing.{name_of, stands_in}
use Rattle.dav_core.specs.Path.{Names}
use Rattle.dav_core.proofs.Rows.{path_in}
use Rattle.dav_model.specs.Folds.{Name, has_name, member_name}
use Rattle.dav_model.proofs.Denied.{member_pushed}
use Rattle.dav_local.proofs.Rows.{name_in}

-- a member's path is that of its directory with its name
member_path : (dir path : Names) (n : Name) → member_name dir path ≡ Some n → path ≡ dir ++ n ∷ []
member_path [] [] n e = cc
member_path [] (m ∷ []) n e = (let same : m ≡ n = cc in ap (λ x. x ∷ []) same)
member_path [] (m ∷ k ∷ path) n e = cc
member_path (d ∷ dir) [] n e = cc
member_path (d ∷ dir) (m ∷ path) n e = by (λ rest. member_path dir path n rest) (bytes_eq d m) refl e
  where
    by : (member_name dir path ≡ Some n → path ≡ dir ++ n ∷ []) → (b : Bool) → bytes_eq d m ≡ b → cond b (member_name dir path) None ≡ Some n → m ∷ path ≡ d ∷ (dir ++ n ∷ [])
    by further true same e = ap (λ x. x ∷ path) (sym ((bytes_eq-Decides d m).0 same)) ∙ ap (λ p. d ∷ p) (further e)
    by further false same e = cc

-- a row that stands in a directory is its member, and no other is
member_of_row : (dir : Names) (row : Row) (b : Bool) → stands_in dir row ≡ b → member_name dir row.path ≡ cond b (Some (name_of row)) None
member_of_row dir row true e = ap (member_name dir) (path_in dir row e) ∙ member_pushed dir (name_of row)
member_of_row dir row false e = by (member_name dir row.path) refl
  where
    by : (m : Option Name) → member_name dir row.path ≡ m → m ≡ None
    by None is = refl
    by (Some n) is = (let stands : true ≡ false = sym (name_in dir n row (member_path dir row.path n is)).0 ∙ e in cc)

-- A name stands in a directory where a row of that name does.
pub named_rows : (tree : List Row) (dir : Names) (x : Name) → list_any (bytes_eq x) (map name_of (filter (stands_in dir) tree)) ≡ has_name tree dir x
named_rows [] dir x = refl
named_rows (row ∷ tree) dir x = by (named_rows tree dir x) (stands_in dir row) refl
  where
    by : list_any (bytes_eq x) (map name_of (filter (stands_in dir) tree)) ≡ has_name tree dir x → (b : Bool) → stands_in dir row ≡ b
        → list_any (bytes_eq x) (map name_of (cond b (row ∷ filter (stands_in dir) tree) (filter (stands_in dir) tree)))
        ≡ list_any (bytes_eq x) (cons_option (member_name dir row.path) (filter_map (λ (r : Row). member_name dir r.path) tree))
    by rest true e = rw (member_of_row dir row true e) (ap (λ b. bytes_eq x (name_of row) || b) rest)
    by rest false e = rw (member_of_row dir row false e) rest
