-- What calls keep of a disk: those that write nothing the worlds but for the open files, and every live handle but
-- one's own; and a write to an open file all but bytes and times.
use Rattle.std.specs.Prelude.{◌≡◌, ◌≢◌, ◌≤◌, ◌+◌, ◌==◌, ◌⊎◌, ℕ, List, Bool, true, false, IsTrue, Option, None, Some, Result, Ok, Err}
use Rattle.std.proofs.Common.{refl, sym, ap, ◌∙◌, arith}
use Rattle.std.proofs.lemmas.Bool.Decides.{nat_tests}
use Rattle.std.specs.List.{AllZip}
use Rattle.dav_io.specs.Told.{Both}
use Rattle.dav_io.proofs.ToldLemmas.{both_then, both_map, both_same}
use Rattle.dav_core.specs.declared.handle.Meta.{Meta}
use Rattle.dav_core.specs.declared.handle.Handle.{Handle}
use Rattle.dav_core.specs.declared.handle.OpenOptions.{OpenOptions}
use Rattle.dav_core.specs.declared.handle.DiskError.{DiskError}
use Rattle.dav_core.specs.declared.time.FileTime.{FileTime}
use Rattle.dav_core.specs.declared.tree.Row.{Row}
use Rattle.dav_core.specs.Path.{Names}
use Rattle.dav_core.specs.World.{World, OpenFile, NotAfter, put}
use Rattle.dav_core.specs.Edits.{IsNew}
pub use Rattle.dav_core.specs.World.{SameBesidesOpens}
use Rattle.dav_core.specs.Disk.{Live, DiskState, Metas, FileMetas, Opens, OpenedIn, kind_opened, Seeks, SoughtIn, Reads, ReadIn, placed, Closes, ClosedIn}

-- What a handle has open stays, number and place. Its bytes stay by `SameBesidesOpens`; a turn may change them.
abbrev pub SameOpen : ℕ → World → World → Type 0
SameOpen h v w = w.opens h ≡ v.opens h

-- the names that a listing has to come stay
abbrev pub SameListing : ℕ → World → World → Type 0
SameListing n v w = w.listings n ≡ v.listings n

-- Nothing changed but for the handle `own`.
pub record KeepsBut (own : ℕ) (s t : DiskState) : Type 0 where
  pub counts : s.faults ≤ t.faults
  pub asked : s.asked ≤ t.asked
  pub whole : IsTrue s.whole → IsTrue t.whole
  pub listers : t.listers ≡ s.listers
  pub listings : (n k : ℕ) → s.listers n ≡ Some k → Both s.told t.told (SameListing n)
  pub world : Both s.told t.told SameBesidesOpens
  pub live : (h : ℕ) → h ≢ own → t.live h ≡ s.live h
  pub opens : (h : ℕ) (l : Live) → h ≢ own → s.live h ≡ Some l → Both s.told t.told (SameOpen h)

-- Nothing changed.
pub record Keeps (s t : DiskState) : Type 0 where
  pub counts : s.faults ≤ t.faults
  pub asked : s.asked ≤ t.asked
  pub whole : IsTrue s.whole → IsTrue t.whole
  pub listers : t.listers ≡ s.listers
  pub listings : (n k : ℕ) → s.listers n ≡ Some k → Both s.told t.told (SameListing n)
  pub world : Both s.told t.told SameBesidesOpens
  pub live : (h : ℕ) → t.live h ≡ s.live h
  pub opens : (h : ℕ) (l : Live) → s.live h ≡ Some l → Both s.told t.told (SameOpen h)

-- A row with its path, its kind and its number, and with its time or a new one.
abbrev pub Retimed : World → World → Row → Row → Type 0
Retimed v w row other = (other ≡ row) ⊎ ((t : FileTime) × IsNew v t w × (other ≡ record row { time = t }))

-- The same but for bytes, times and what is open: what stood stands where it stood, and nothing else does.
pub record SameBesidesFiles (v w : World) : Type 0 where
  pub rows : AllZip (Retimed v w) v.tree w.tree
  pub script : w.script ≡ v.script
  pub greatest : v.greatest ≤ w.greatest
  pub latest : NotAfter v.latest w.latest
