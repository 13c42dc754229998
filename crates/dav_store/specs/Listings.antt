-- What the calls of a listing do with the listers of a disk, and how an entry of it answers.
use Rattle.std.specs.Prelude.{◌≡◌, ◌≢◌, ◌≤◌, ◌<◌, ℕ, Bool, IsTrue, Option, None, Some, IsSome, Result, Ok, Err}
use Rattle.dav_io.specs.Told.{Both}
use Rattle.dav_core.specs.declared.error.FsError.{FsError}
use Rattle.dav_core.specs.declared.error.FsError.TheVariants.{NoMemory}
use Rattle.dav_core.specs.declared.tree.Kind.{Kind}
use Rattle.dav_core.specs.Disk.{DiskState, Live}
use Rattle.dav_core.specs.Info.{Info}
use Rattle.dav_core.specs.Unchanged.{Keeps, SameOpen, SameListing, SameBesidesOpens}

-- what a disk has of the lister that a listing holds, if it holds one
abbrev pub left_of : DiskState → Option ℕ → Option ℕ
left_of s None = None
left_of s (Some n) = s.listers n

-- The lister that a listing holds is live.
abbrev pub HasLister : DiskState → Option ℕ → Type 0
HasLister s None = Unit {0}
HasLister s (Some n) = IsSome (s.listers n)

-- The lister that a listing holds isn't live.
abbrev pub HasNone : DiskState → Option ℕ → Type 0
HasNone s None = Unit {0}
HasNone s (Some n) = s.listers n ≡ None

-- Nothing changed but for the lister `own`, if there is one.
pub record KeepsButLister (own : Option ℕ) (s t : DiskState) : Type 0 where
  pub counts : s.faults ≤ t.faults
  pub asked : s.asked ≤ t.asked
  pub whole : IsTrue s.whole → IsTrue t.whole
  pub world : Both s.told t.told SameBesidesOpens
  pub live : (h : ℕ) → t.live h ≡ s.live h
  pub opens : (h : ℕ) (l : Live) → s.live h ≡ Some l → Both s.told t.told (SameOpen h)
  pub listers : (n : ℕ) → own ≢ Some n → t.listers n ≡ s.listers n
  pub listings : (n k : ℕ) → own ≢ Some n → s.listers n ≡ Some k → Both s.told t.told (SameListing n)

-- A listing was begun.
pub record IsListed (s : DiskState) (own : Option ℕ) (t : DiskState) : Type 0 where
  pub keeps : KeepsButLister own s t
  pub fresh : HasNone s own
  pub live : HasLister t own

abbrev pub ListsOne : {L : Type 0} → (L → Option ℕ) → DiskState → Result L FsError → DiskState → Type 0
ListsOne lister s (Ok listing) t = IsListed s (lister listing) t
ListsOne lister s (Err e) t = Keeps s t

-- An answer but None and want of memory leaves at least one answer fewer to come, and no answer more.
abbrev pub Nearer : {E : Type 0} → ℕ → Result (Option E) FsError → ℕ → Type 0
Nearer before (Ok None) after = after ≤ before
Nearer before (Ok (Some entry)) after = after < before
Nearer before (Err NoMemory) after = after ≤ before
Nearer before (Err e) after = after < before

-- The lister is live still, and nothing else changed.
pub record GoesOn (s : DiskState) (own : Option ℕ) (t : DiskState) : Type 0 where
  pub keeps : KeepsButLister own s t
  pub live : HasLister t own

-- The listing is open no more.
pub record EndsList (s : DiskState) (own : Option ℕ) (t : DiskState) : Type 0 where
  pub keeps : KeepsButLister own s t
  pub counts : t.faults ≡ s.faults
  pub live : HasNone t own

-- whether the kind that is said passes a test
abbrev pub kind_said : (Kind → Bool) → Result Info FsError → Result Bool FsError
kind_said test (Ok info) = Ok (test info.kind)
kind_said test (Err e) = Err e

-- What an entry answers of its kind is what its metadata would say.
abbrev pub SaysKind : {E : Type 0} → (E → DiskState → Result Info FsError → DiskState → Type 0) → (Kind → Bool) → E
    → DiskState → Result Bool FsError → DiskState → Type 0
SaysKind says test entry s result t = (said : Result Info FsError) × says entry s said t
    × (result ≡ kind_said test said)
