-- The rows that stand in a directory of a tree, and its members by their names.
use Rattle.std.proofs.Common.{◌≡◌, ℕ, Bool, false, List, [], ◌∷◌, ◌++◌, map, Result, Ok, Err, refl, ap, ◌∙◌}
use Rattle.std.specs.List.{AllByRecursion}
use Rattle.dav_core.specs.declared.handle.DiskError.{DiskError}
use Rattle.dav_core.specs.declared.tree.Row.{Row}
use Rattle.dav_core.specs.DavPath.{WebPath}
use Rattle.dav_core.specs.Listing.{name_of}
use Rattle.dav_core.specs.Path.{Names}
use Rattle.dav_core.specs.Tree.{is_dir, look}
use Rattle.dav_core.specs.World.{World}
use Rattle.dav_model.specs.Walks.{dir_first, in_order}
use Rattle.dav_walks.specs.declared.child.Child.{Child}
use Rattle.dav_walks.specs.Follows.{child_of}
use Rattle.dav_walks.specs.Reading.{child_named}
use Rattle.dav_local.proofs.EntriesTold.{StandsIn}
use Rattle.dav_local_laws.proofs.NameOrder.{all_in_order}

pub paths_of : (w : World) (dir : Names) (rows : List Row) → AllByRecursion (StandsIn w.tree dir) rows → AllByRecursion (λ (row : Row). row.path ≡ dir ++ name_of row ∷ []) rows
paths_of w dir [] stand = tt
paths_of w dir (row ∷ rows) stand = (stand.0.path, paths_of w dir rows stand.1)

-- ---- members by their names

abbrev pub found_dir : Result Row DiskError → Bool
found_dir (Ok row) = is_dir row.kind
found_dir (Err e) = false

-- the member of a name in a directory that a path leads to, as the tree has it
abbrev pub member : World → Names → WebPath → List ℕ → Child
member w dir path name = child_named path name (found_dir (look w.tree (dir ++ name ∷ [])))

pub rows_members : (w : World) (dir : Names) (path : WebPath) (rows : List Row) → AllByRecursion (StandsIn w.tree dir) rows → map (member w dir path) (map name_of rows) ≡ map (child_of path) rows
rows_members w dir path [] stand = refl
rows_members w dir path (row ∷ rows) stand =
    let first : member w dir path (name_of row) ≡ child_of path row = ap (λ found. child_named path (name_of row) (found_dir found)) stand.0.found in
    ap (λ m. m ∷ map (member w dir path) (map name_of rows)) first ∙ ap (λ ms. child_of path row ∷ ms) (rows_members w dir path rows stand.1)

-- each is the member of its name
pub are_members : (w : World) (dir : Names) (path : WebPath) (names : Names) → AllByRecursion (λ (m : Child). m ≡ member w dir path m.name) (map (member w dir path) names)
are_members w dir path [] = tt
are_members w dir path (name ∷ names) = (refl, are_members w dir path names)

by_names : (w : World) (dir : Names) (path : WebPath) (members : List Child) → AllByRecursion (λ (m : Child). m ≡ member w dir path m.name) members
    → members ≡ map (member w dir path) (map (λ (m : Child). m.name) members)
by_names w dir path [] all = refl
by_names w dir path (m ∷ members) all =
    ap (λ x. x ∷ members) all.0 ∙ ap (λ ms. member w dir path m.name ∷ ms) (by_names w dir path members all.1)

-- Members whose names are those of the rows in order are the members of the rows in that order.
pub in_name_order : (w : World) (dir : Names) (path : WebPath) (rows : List Row) (members : List Child) → AllByRecursion (StandsIn w.tree dir) rows
    → AllByRecursion (λ (m : Child). m ≡ member w dir path m.name) members
    → map (λ (m : Child). m.name) members ≡ map name_of (in_order dir_first rows) → members ≡ map (child_of path) (in_order dir_first rows)
in_name_order w dir path rows members stand all same =
    by_names w dir path members all
    ∙ (ap (map (member w dir path)) same
    ∙ rows_members w dir path (in_order dir_first rows) (all_in_order (StandsIn w.tree dir) dir_first rows stand))
