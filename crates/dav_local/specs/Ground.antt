-- What a search of a directory didn't find.
use Rattle.std.specs.Prelude.{◌≡◌, ◌++◌, ◌∷◌, [], List, false, Option, None, Some, Ok}
use Rattle.dav_core.specs.declared.tree.Row.{Row}
use Rattle.dav_core.specs.Disk.{DiskState}
use Rattle.dav_core.specs.Path.{Names}
use Rattle.dav_core.specs.Tree.{is_linked, look}
use Rattle.dav_core.specs.World.{World, IsWorld}
use Rattle.dav_model.specs.Finding.{IsOf}
use Rattle.dav_model.specs.Folds.{Name, fold_name}

-- A directory that stands there, with no link on the way or at it.
pub record IsClearAt (tree : List Row) (at : Names) : Type 0 where
  pub row : Row
  pub stands : look tree at ≡ Ok row
  pub clear : is_linked tree at ≡ false

-- Of the names in a directory one has this folding, or none has, also where it is no directory.
abbrev pub SoughtIn : List Row → Names → Name → Option Name → Type 0
SoughtIn tree at folded (Some name) = (row : Row) × IsOf row tree × (row.path ≡ at ++ name ∷ [])
SoughtIn tree at folded None = (row : Row) (name : Name) → IsOf row tree → row.path ≡ at ++ name ∷ [] → fold_name name
    ≡ folded → ⊥

-- No name in the directory has the folding, where the world is told and no link is met.
pub record Lacks (s : DiskState) (at : Names) (folding : Name) : Type 0 where
  pub none : (w : World) → s.told ≡ Some w → IsWorld w → IsClearAt w.tree at → SoughtIn w.tree at folding None
