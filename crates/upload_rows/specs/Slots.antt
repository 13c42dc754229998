-- What may be open from one call to the next, by its handles: the files of two uploads, and that of a reader.
use Rattle.std.specs.Prelude.{◌≡◌, ◌≢◌, ℕ, Option, None, Some, IsSome, IfSome}
use Rattle.dav_core.specs.Disk.{DiskState}
use Rattle.dav_upload.specs.declared.upload.Upload.{Upload}

-- the handle of a file that may be open
abbrev pub file_of : {F : Type 0} → (F → ℕ) → Option F → Option ℕ
file_of handle None = None
file_of handle (Some file) = Some (handle file)

-- the handle of an upload that may be under way
abbrev pub upload_of : {F : Type 0} → (F → ℕ) → Option (Upload F) → Option ℕ
upload_of handle None = None
upload_of handle (Some u) = Some (handle u.file)

-- The handle is live.
abbrev pub IsLive : Option ℕ → DiskState → Type 0
IsLive slot s = IfSome slot (λ h. IsSome (s.live h))

-- It isn't this handle.
abbrev pub IsNot : Option ℕ → ℕ → Type 0
IsNot None k = Unit {0}
IsNot (Some h) k = k ≢ h

-- The file goes on, ends or begins, and all else that is open stays.
pub record Goes (old : Option ℕ) (s : DiskState) (new : Option ℕ) (t : DiskState) : Type 0 where
  pub live : IsLive new t
  pub others : (k : ℕ) → IsSome (s.live k) → IsNot old k → t.live k ≡ s.live k
  pub apart : (k : ℕ) → IsSome (s.live k) → IsNot old k → IsNot new k

-- All that may be open is live, and no two are one.
pub record Under (one other reader : Option ℕ) (s : DiskState) : Type 0 where
  pub first : IsLive one s
  pub second : IsLive other s
  pub third : IsLive reader s
  pub first_second : IfSome one (IsNot other)
  pub first_third : IfSome one (IsNot reader)
  pub second_third : IfSome other (IsNot reader)
