-- The world as it is shown: without hidden names, and without the times of directories.
use Rattle.std.specs.Prelude.{◌≡◌, ◌≢◌, ◌≤◌, ◌<◌, ℕ, List, [], true, false, cond, length, Option, None, Some}
use Rattle.std.specs.Option.{option_map}
use Rattle.dav_core.specs.declared.tree.Row.{Row}
use Rattle.dav_core.specs.declared.tree.Kind.{Kind}
use Rattle.dav_core.specs.declared.tree.Kind.TheVariants.{Dir, File, Link}
use Rattle.dav_core.specs.declared.time.FileTime.{FileTime}
use Rattle.dav_core.specs.Changes.{is_leaf}
use Rattle.dav_core.specs.Path.{Names, parent_of, is_front}
use Rattle.dav_core.specs.Tree.{row_at}
use Rattle.dav_core.specs.World.{World, bytes_of}
use Rattle.dav_upload.specs.Names.{is_hidden_path}

-- a row as it is shown
pub record ShownRow : Type 0 where
  pub kind : Kind
  pub number : ℕ
  pub time : Option FileTime
  pub bytes : List ℕ

abbrev pub shown_as : Kind → ℕ → FileTime → List ℕ → ShownRow
shown_as Dir number time bytes = record { kind = Dir; number = number; time = None; bytes = [] }
shown_as File number time bytes = record { kind = File; number = number; time = Some time; bytes = bytes }
shown_as Link number time bytes = record { kind = Link; number = number; time = Some time; bytes = [] }

abbrev pub shown_row : World → Row → ShownRow
shown_row w row = shown_as row.kind row.number row.time (bytes_of w row.number)

-- what is shown at a path
abbrev pub shown_at : World → Names → Option ShownRow
shown_at w path = cond (is_hidden_path path) None (option_map (shown_row w) (row_at w.tree path))

abbrev pub SameShown : World → World → Type 0
SameShown v w = (path : Names) → shown_at w path ≡ shown_at v path

-- All but the target is shown as before, and the target is a file of these bytes.
pub record IsCommitted (v : World) (target : Names) (pieces : List ℕ) (w : World) : Type 0 where
  pub others : (path : Names) → (path ≡ target → ⊥) → shown_at w path ≡ shown_at v path
  pub row : ShownRow
  pub shown : shown_at w target ≡ Some row
  pub kind : row.kind ≡ File
  pub bytes : row.bytes ≡ pieces

-- A hidden file stands beside a target that may be replaced: nothing lies below the two, and a directory is above.
pub record StandsBeside (v : World) (hidden target : Names) (row : Row) : Type 0 where
  pub at : row_at v.tree hidden ≡ Some row
  pub file : row.kind ≡ File
  pub hides : is_hidden_path hidden ≡ true
  pub shows : is_hidden_path target ≡ false
  pub alone : is_leaf hidden v.tree ≡ true
  pub over : is_leaf target v.tree ≡ true
  pub named : 0 < length target
  pub apart : is_front target hidden ≡ false
  pub above_hidden : (r : Row) → row_at v.tree (parent_of hidden) ≡ Some r → r.kind ≡ Dir
  pub above_target : (r : Row) → row_at v.tree (parent_of target) ≡ Some r → r.kind ≡ Dir

-- A hidden name in a directory, with nothing below it.
pub record IsHiddenIn (v : World) (hidden : Names) : Type 0 where
  pub hides : is_hidden_path hidden ≡ true
  pub alone : is_leaf hidden v.tree ≡ true
  pub above : (r : Row) → row_at v.tree (parent_of hidden) ≡ Some r → r.kind ≡ Dir

-- No row that is shown has this number.
abbrev pub IsUnseen : World → ℕ → Type 0
IsUnseen v number = (path : Names) (r : Row) → row_at v.tree path ≡ Some r → is_hidden_path path ≡ false → r.number ≢ number

-- No row's number is above the greatest, as in every world that is told.
abbrev pub AreBelow : World → Type 0
AreBelow v = (path : Names) (r : Row) → row_at v.tree path ≡ Some r → r.number ≤ v.greatest
