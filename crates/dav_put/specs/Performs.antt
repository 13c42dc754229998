-- What the program does over the calls of any store, and how it ends.
use Rattle.std.specs.Prelude.{◌≡◌, ◌≢◌, ◌⊎◌, ◌-◌, ◌*◌, ◌/◌, ◌%◌, ℕ, pos, [], None, Result, false, true}
use Rattle.dav_io.specs.Outside.{Stream}
use Rattle.dav_core.specs.declared.time.FileTime.{FileTime}
use Rattle.dav_core.specs.DavPath.{WebPath}
use Rattle.dav_model.specs.declared.outcome.Outcome.{Outcome}
use Rattle.dav_local.specs.declared.fs.LocalFs.{LocalFs}
use Rattle.dav_store.specs.View.{Listings, View}
use Rattle.dav_walks.specs.Pouring.{Writes}
use Rattle.dav_put.specs.declared.ending.Ending.{Ending}
use Rattle.dav_put.specs.declared.ending.Ending.TheVariants.{Refused}
use Rattle.dav_put.specs.declared.words.Task.{Task}
use Rattle.dav_put.specs.declared.words.Task.TheVariants.{Store, Sweep}
use Rattle.dav_put.specs.declared.storing.Stop.{Stop}
use Rattle.dav_put.specs.Ending.{ending_for, ending_swept}
use Rattle.dav_put.specs.Storing.{Stores}
use Rattle.dav_upload.specs.declared.error.UploadError.{UploadError}
use Rattle.dav_upload.specs.Sweeping.{SweepsBefore}

-- the time of so many nanoseconds since 1970
abbrev pub time_of : ℕ → FileTime
time_of nanos = record { secs = pos (nanos / 1000000000); nanos = nanos % 1000000000 }

-- the time so many seconds before a moment, or 1970
abbrev pub limit_of : ℕ → ℕ → FileTime
limit_of moment older = time_of (moment - older * 1000000000)

module _ {S C F L E : Type 0} (view : View S C F) (lists : Listings S C L E) (writes : Writes F) (c : C) where
  -- The input is stored, at another path than the root, under no precondition; nothing is asked there.
  abbrev pub StoresAt : WebPath → ℕ → S → Stream → Ending → S → Stream → Type 0
  StoresAt target first s i ending t j = ((target.names ≡ []) × (ending ≡ Refused 405) × (t ≡ s) × (j ≡ i))
      ⊎ ((target.names ≢ []) × (result : Result Outcome Stop)
      × Stores view writes c (record { target = target; fields = []; token = first }) s i result t j
      × (ending ≡ ending_for result))

  -- What was left in a directory before a time is removed.
  abbrev pub SweepsAt : WebPath → FileTime → S → Ending → S → Type 0
  SweepsAt dir limit s ending t = (result : Result ℕ UploadError) × SweepsBefore view lists c dir limit s result t
      × (ending ≡ ending_swept result)

  -- The moment is the first token of a store, and a sweep goes back from it.
  abbrev pub Performs : Task → ℕ → S → Stream → Ending → S → Stream → Type 0
  Performs (Store target) moment s i ending t j = StoresAt target moment s i ending t j
  Performs (Sweep dir older) moment s i ending t j = SweepsAt dir (limit_of moment older) s ending t × (j ≡ i)

-- ---- over a folder

-- The store of a folder: of its root, with names as they are written, and what it makes is open to everybody.
abbrev pub store_of : {D R : Type 0} → D → R → LocalFs D R
store_of disk memory = record {
  disk = disk;
  memory = memory;
  ways = record { alone = None; folds = false; macos = false };
  public = true;
  moment = record { 0 = 0 };
}
