-- What the calls of a store and of a file leave as it was, and what an open adds.
use Rattle.std.specs.Prelude.{◌≡◌, ◌≢◌, ◌≤◌, ℕ, IsTrue, Option, None, Some, IsSome, Result, Ok, Err}
use Rattle.dav_io.specs.Told.{Both}
use Rattle.dav_core.specs.declared.error.FsError.{FsError}
use Rattle.dav_core.specs.declared.handle.OpenOptions.{OpenOptions}
use Rattle.dav_core.specs.Disk.{DiskState, Live}
use Rattle.dav_core.specs.Unchanged.{Keeps, KeepsBut, SameListing, SameOpen}
use Rattle.dav_core.specs.Writing.{reading}
use Rattle.dav_store.specs.FileView.{FileView}
use Rattle.dav_store.specs.Standing.{Seen}

-- The same handles and listers are live, every open file has its number and its place, and every open listing its names
-- to come. What stands may differ.
pub record KeepsOpen (s t : DiskState) : Type 0 where
  pub counts : s.faults ≤ t.faults
  pub asked : s.asked ≤ t.asked
  pub whole : IsTrue s.whole → IsTrue t.whole
  pub listers : t.listers ≡ s.listers
  pub listings : (n k : ℕ) → s.listers n ≡ Some k → Both s.told t.told (SameListing n)
  pub live : (h : ℕ) → t.live h ≡ s.live h
  pub opens : (h : ℕ) (l : Live) → s.live h ≡ Some l → Both s.told t.told (SameOpen h)

-- the same but for the handle `own`
pub record KeepsOpenBut (own : ℕ) (s t : DiskState) : Type 0 where
  pub counts : s.faults ≤ t.faults
  pub asked : s.asked ≤ t.asked
  pub whole : IsTrue s.whole → IsTrue t.whole
  pub listers : t.listers ≡ s.listers
  pub listings : (n k : ℕ) → s.listers n ≡ Some k → Both s.told t.told (SameListing n)
  pub live : (h : ℕ) → h ≢ own → t.live h ≡ s.live h
  pub opens : (h : ℕ) (l : Live) → h ≢ own → s.live h ≡ Some l → Both s.told t.told (SameOpen h)

-- A file was opened at its first byte. Opened for reading alone, nothing else changed.
pub record IsOpened (how : OpenOptions) (s : DiskState) (h : ℕ) (seen : Option Seen) (t : DiskState) : Type 0 where
  pub others : KeepsOpenBut h s t
  pub kept : how ≡ reading → KeepsBut h s t
  pub fresh : s.live h ≡ None
  pub live : IsSome (t.live h)
  pub options : (l : Live) → t.live h ≡ Some l → l.how ≡ how
  pub place : (f : Seen) → seen ≡ Some f → f.place ≡ 0

-- No file was opened. Asked for reading alone, nothing changed.
pub record IsUnopened (how : OpenOptions) (s t : DiskState) : Type 0 where
  pub others : KeepsOpen s t
  pub kept : how ≡ reading → Keeps s t

abbrev pub OpensOne : {F : Type 0} → FileView F → OpenOptions → DiskState → Result F FsError → DiskState → Type 0
OpensOne view how s (Ok file) t = IsOpened how s (view.handle file) (view.seen file t) t
OpensOne view how s (Err e) t = IsUnopened how s t
