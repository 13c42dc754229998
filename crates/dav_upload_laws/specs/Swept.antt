-- What a sweep takes of a tree.
use Rattle.std.specs.Prelude.{◌≡◌, ◌⊎◌, ℕ, true, length, None, Some, Result, Ok}
use Rattle.dav_io.specs.Counts.{Rose}
use Rattle.dav_core.specs.declared.time.FileTime.{FileTime}
use Rattle.dav_core.specs.declared.tree.Kind.TheVariants.{File}
use Rattle.dav_core.specs.declared.tree.Row.{Row}
use Rattle.dav_core.specs.DavPath.{WebPath}
use Rattle.dav_core.specs.Info.{known_time}
use Rattle.dav_core.specs.Path.{Names, parent_of}
use Rattle.dav_core.specs.Tree.{row_at}
use Rattle.dav_core.specs.World.{World}
use Rattle.dav_walks.specs.Follows.{children_in}
use Rattle.dav_upload.specs.declared.error.UploadError.{UploadError}
use Rattle.dav_upload.specs.Kept.{KeepsRow}
use Rattle.dav_upload.specs.Names.{is_hidden_path}
use Rattle.dav_upload.specs.Sweeping.{was_before}
use Rattle.dav_upload.specs.Uploading.{hidden_files}

-- A regular file with a hidden name stands at this path, in this directory.
pub record IsLeftOver (w : World) (dir path : Names) : Type 0 where
  pub row : Row
  pub at : row_at w.tree path ≡ Some row
  pub file : row.kind ≡ File
  pub hides : is_hidden_path path ≡ true
  pub within : parent_of path ≡ dir

-- Exactly the regular files with hidden names among the members of a directory are taken, and counted; a sweep that was
-- refused took some of them.
pub record Swept (dir : WebPath) (r : Result ℕ UploadError) (v w : World) : Type 0 where
  pub others : (path : Names) → (IsLeftOver v dir.names path → ⊥) → KeepsRow v w path
  pub gone : (n : ℕ) → r ≡ Ok n → (path : Names) → IsLeftOver v dir.names path → row_at w.tree path ≡ None
  pub count : (n : ℕ) → r ≡ Ok n → n ≡ length (hidden_files dir (children_in v.tree dir.names dir))

-- A regular file with a hidden name that was changed before a time stands at this path, in this directory.
pub record IsLeftBefore (w : World) (dir : Names) (limit : FileTime) (path : Names) : Type 0 where
  pub over : IsLeftOver w dir path
  pub before : was_before limit (known_time over.row.time) ≡ true

abbrev pub IsNotLeftBefore : World → Names → FileTime → Names → Type 0
IsNotLeftBefore w dir limit path = IsLeftBefore w dir limit path → ⊥

-- Exactly these are taken, unless the count of faults rose, as where the disk tells nothing of one; a sweep that was
-- refused took some of them.
pub record SweptBefore (dir : Names) (limit : FileTime) (r : Result ℕ UploadError) (from now : ℕ) (v w : World)
    : Type 0 where
  pub others : (path : Names) → IsNotLeftBefore v dir limit path → KeepsRow v w path
  pub gone : (n : ℕ) → r ≡ Ok n → (path : Names) → IsLeftBefore v dir limit path
      → (row_at w.tree path ≡ None) ⊎ Rose from now
