-- A disk and a store that have nothing, and the metadata of an empty file.
use Rattle.std.specs.Prelude.{◌≡◌, ℕ, pos, false, true, Bool, Option, None, Some, Result, Ok, Err}
use Rattle.std.proofs.Common.{sym, ap}
use Rattle.dav_core.specs.declared.error.FsError.{FsError}
use Rattle.dav_core.specs.declared.error.FsError.TheVariants.{NotImplemented}
use Rattle.dav_core.specs.declared.time.FileTime.{FileTime}
use Rattle.dav_core.specs.declared.tree.Kind.TheVariants.{File}
use Rattle.dav_core.specs.Disk.{DiskState}
use Rattle.dav_core.specs.Info.{AreInYears, Info, IsInYears, is_in_years}
use Rattle.dav_core.specs.World.{World, IsWorld}
use Rattle.dav_store.specs.FileView.{FileView}

-- Nothing is told, and nothing is live.
abbrev pub no_disk_state : ℕ → ℕ → DiskState
no_disk_state faults asked = record {
  told = None;
  faults = faults;
  asked = asked;
  whole = false;
  live = λ h. None;
  listers = λ l. None;
}

-- nothing is told
pub never_told : (w : World) → None ≡ Some w → IsWorld w
never_told w e = cc

-- the handle that a file of the void store names; none is live
abbrev pub no_handle : ℕ
no_handle = 0

-- refused, with nothing asked
abbrev pub Unbuilt : {S T : Type 0} → S → Result T FsError → S → Type 0
Unbuilt s result t = (result ≡ Err NotImplemented) × (t ≡ s)

-- a file of the void store: nothing is told of it, and it may be asked at any time
abbrev pub void_file : {F : Type 0} → FileView F
void_file = record {
  handle = λ _. no_handle;
  seen = λ _ _. None;
  writes = λ _ s _ result _ t. Unbuilt s result t;
  reads_from = λ _ _. Unit {0};
  asks_once = Unit {0};
  becomes = λ _ _. Unit {0};
  becomes_same = λ _. tt;
  becomes_then = λ _ _ _ _ _. tt;
}

-- A listing of nothing answers `NotImplemented` once, and then None.
abbrev pub GivesOnce : {E : Type 0} → Bool → Result (Option E) FsError → Bool → Type 0
GivesOnce true result over = (result ≡ Ok None) × (over ≡ true)
GivesOnce false result over = (result ≡ Err NotImplemented) × (over ≡ true)

-- the time of an empty file
abbrev pub empty_time : FileTime
empty_time = record { secs = pos 959652000; nanos = 0 }

-- what is said of an empty file
abbrev pub empty_info : Info
empty_info = record {
  kind = File;
  len = 0;
  modified = Some empty_time;
  created = Some empty_time;
  accessed = None;
  changed = None;
  exec = None;
  tag = None;
}

empty_time_in_years : IsInYears (Some empty_time)
empty_time_in_years time e = let same : empty_time ≡ time = cc in ap (λ (t : FileTime). is_in_years t.secs) (sym same)

none_in_years : IsInYears None
none_in_years time e = cc

-- Its times lie in the years that can be shown.
pub empty_in_years : AreInYears empty_info
empty_in_years = record {
  modified = empty_time_in_years;
  created = empty_time_in_years;
  accessed = none_in_years;
  changed = none_in_years;
}
