-- The places of rows in a list, by their paths.
use Rattle.std.specs.Prelude.{◌≡◌, ◌&&◌, ℕ, suc, List, [], ◌∷◌, ◌++◌, cond, Option, None, Some}
use Rattle.std.specs.Option.{option_map, option_or}
use Rattle.std.specs.Str.{bytes_eq}
use Rattle.dav_core.specs.declared.tree.Row.{Row}
use Rattle.dav_core.specs.Path.{Names, same_names}
use Rattle.dav_disk.specs.Members.{member_in, members_of}
use Rattle.dav_disk.specs.declared.places.Places.{Places}

-- the place of a name in a directory
abbrev pub place_in : Places → Names → List ℕ → Option ℕ
place_in p dir name = member_in (members_of p.dirs dir) name

-- the same places
abbrev pub IsKept : Places → Places → Type 0
IsKept old new = (dir : Names) (name : List ℕ) → place_in new dir name ≡ place_in old dir name

-- A name in a directory has this place, if it had none. All other places are kept.
abbrev pub IsAdded : Names → List ℕ → ℕ → Places → Places → Type 0
IsAdded at added place old new = (dir : Names) (name : List ℕ)
    → place_in new dir name
    ≡ option_or (place_in old dir name) (cond (same_names at dir && bytes_eq added name) (Some place) None)

-- the place of the first row at a path
abbrev pub place_of : Names → List Row → Option ℕ
place_of path [] = None
place_of path (row ∷ rows) = cond (same_names path row.path) (Some 0) (option_map suc (place_of path rows))

-- Each path but the empty one has the place of the first row that stands there.
pub record Indexes (p : Places) (rows : List Row) : Type 0 where
  pub places : (dir : Names) (name : List ℕ) → place_in p dir name ≡ place_of (dir ++ name ∷ []) rows
