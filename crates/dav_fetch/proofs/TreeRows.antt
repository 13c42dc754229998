-- Rows of a tree: what a look finds, and what stands in a directory.
use Rattle.std.proofs.Common.{◌≡◌, ℕ, List, [], ◌∷◌, ◌++◌, Result, Ok, sym, ap, ◌∙◌}
use Rattle.dav_core.specs.declared.handle.DiskError.{DiskError}
use Rattle.dav_core.specs.declared.tree.Kind.TheVariants.{Dir}
use Rattle.dav_core.specs.declared.tree.Row.{Row}
use Rattle.dav_core.specs.Path.{Names}
use Rattle.dav_core.specs.Tree.{look, look_from, row_at, standing}
use Rattle.dav_core.proofs.Rows.{dir_row, in_row_at, row_at_in, IsTree}
use Rattle.dav_core.proofs.LookLemmas.{standing_row, below_ok, look_there, look_child}
use Rattle.dav_fetch.specs.Copy.{IsOf}

-- ---- a row is found at its path

-- the root stands
pub root_stands : (tree : List Row) → IsTree tree → (d : Row) × (look tree [] ≡ Ok d) × (d.kind ≡ Dir)
root_stands tree is = let (d, there, kind) = dir_row (row_at tree []) is.root in (d, ap standing there, kind)

-- ---- looks

-- one look finds one row
pub same_row : (a b : Row) (found : Result Row DiskError) → found ≡ Ok a → found ≡ Ok b → a ≡ b
same_row a b found e f = cc

-- What a look finds is a row of the tree, with that path.
pub looked_is : (tree : List Row) (path : Names) (row : Row) → look tree path ≡ Ok row → IsOf row tree × (row.path ≡ path)
looked_is tree path row e = row_at_in tree path row (look_there tree [] path row e)

-- A row in a directory that stands is found there.
pub stands_below : (tree : List Row) (at : Names) (name : List ℕ) (d row : Row) → IsTree tree → look tree at ≡ Ok d → d.kind ≡ Dir → IsOf row tree → row.path ≡ at ++ name ∷ []
    → look tree (at ++ name ∷ []) ≡ Ok row
stands_below tree at name d row is looked kind o path = look_child tree [] at name d row looked kind (ap (row_at tree) (sym path) ∙ in_row_at tree row is.apart o)

-- What stands further on stands in a directory on the way.
pub next_found : (tree : List Row) (at : Names) (name : List ℕ) (names : Names) (row : Row) → look_from tree at (name ∷ names) ≡ Ok row → look_from tree (at ++ name ∷ []) names ≡ Ok row
next_found tree at name names row e = let (over, is, kind, rest) = below_ok (row_at tree at) (look_from tree (at ++ name ∷ []) names) row e in rest

pub row_here : (tree : List Row) (at : Names) (row : Row) → look_from tree at [] ≡ Ok row → IsOf row tree × (row.path ≡ at)
row_here tree at row e = row_at_in tree at row (standing_row (row_at tree at) row e)

pub dir_here : (tree : List Row) (at : Names) (name : List ℕ) (names : Names) (row : Row) → look_from tree at (name ∷ names) ≡ Ok row → (d : Row) × IsOf d tree × (d.path ≡ at) × (d.kind ≡ Dir)
dir_here tree at name names row e =
    let (over, is, kind, rest) = below_ok (row_at tree at) (look_from tree (at ++ name ∷ []) names) row e in
    let (o, path) = row_at_in tree at over is in
    (over, o, path, kind)
