-- What a step of an upload leaves to others: to those who read, and to other uploads.
use Rattle.std.specs.Prelude.{◌≡◌, ◌≢◌, ℕ, Bool, true, false, Option, Some}
use Rattle.dav_core.specs.declared.tree.Row.{Row}
use Rattle.dav_core.specs.Disk.{Live}
use Rattle.dav_core.specs.Path.{Names, parent_of}
use Rattle.dav_core.specs.Tree.{row_at}
use Rattle.dav_core.specs.World.{Holds, OpenFile, World, bytes_of}
use Rattle.dav_upload.specs.Names.{is_hidden_path}
use Rattle.dav_upload.specs.Standing.{Pending, StandsIn}

-- `shown` tells which handles count as those of bodies of files that are shown. `own` is the handle of the step's
-- upload, where it has one, and `other` the paths that aren't the step's own.
pub record LeavesOthers (shown : ℕ → Bool) (own : Option ℕ) (other : Names → Type 0) (live then : ℕ → Option Live)
    (v w : World) : Type 0 where
  -- The bytes of a file that stood at another path stay, as long as somebody holds it.
  pub files : (path : Names) (row : Row) → other path → row_at v.tree path ≡ Some row → Holds w row.number
      → bytes_of w row.number ≡ bytes_of v row.number
  -- What another handle has open stays open, at its place, and with its bytes where the handle counts.
  pub bodies : (k : ℕ) (l : Live) (o : OpenFile) → own ≢ Some k → live k ≡ Some l → v.opens k ≡ Some o
      → (then k ≡ Some l) × (w.opens k ≡ Some o)
      × (shown k ≡ true → bytes_of w o.number ≡ bytes_of v o.number)
  -- An upload with another hidden path goes on standing.
  pub uploads : (u : Pending) → other u.hidden → StandsIn shown live v u → StandsIn shown then w u

-- What a handle has open is the file of a row that is shown.
abbrev pub IsOfShown : World → World → ℕ → Type 0
IsOfShown v w h = (path : Names) × (row : Row) × (row_at v.tree path ≡ Some row) × (is_hidden_path path ≡ false)
    × ((o : OpenFile) → w.opens h ≡ Some o → o.number ≡ row.number)

-- all paths but one
abbrev pub IsNot : Names → Names → Type 0
IsNot path p = p ≢ path

-- all paths but the hidden names of a directory
abbrev pub IsNotHiddenIn : Names → Names → Type 0
IsNotHiddenIn dir p = is_hidden_path p ≡ true → parent_of p ≢ dir

-- every path
abbrev pub IsAny : Names → Type 0
IsAny p = Unit {0}
