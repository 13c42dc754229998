-- What a body asks of its open file.
use Rattle.std.specs.Prelude.{◌≡◌, ◌≢◌, ◌≤◌, ◌<◌, ℕ, List, length, take, drop, Bool, true, is_some, IsTrue, IsFalse, Option, Some, MatchOption}
use Rattle.dav_io.specs.Counts.{Rose}
use Rattle.dav_io.specs.Told.{Both}
use Rattle.dav_core.specs.Disk.{DiskState, can_read}
use Rattle.dav_core.specs.Unchanged.{KeepsBut}
use Rattle.dav_model.specs.declared.ranges.Slice.{Slice}
use Rattle.dav_model.specs.Bodies.{PieceOf}
use Rattle.dav_model.specs.Calls.{AsksToRead}
use Rattle.dav_store.specs.FileView.{FileView}
use Rattle.dav_store.specs.Files.{AsksOnce}
use Rattle.dav_store.specs.Standing.{Seen}
use Rattle.dav_get.specs.declared.open_at.OpenAt.{OpenAt}

-- The file is live, regular and opened for reading, may be read, and stands at the place that is noted.
pub record IsAt {F : Type 0} (files : FileView F) (s : DiskState) (h : OpenAt F) : Type 0 where
  pub live : can_read (s.live (files.handle h.file)) ≡ true
  pub reads : files.reads_from h.file s
  pub place : (f : Seen) → files.seen h.file s ≡ Some f → f.place ≡ h.place

-- the same file with the same bytes
abbrev pub SameStands : Option Seen → Option Seen → Type 0
SameStands a b = Both a b (λ f g. g.stands ≡ f.stands)

-- The file was moved to a place, or a fault was met.
pub record Moves {F : Type 0} (files : FileView F) (s : DiskState) (h : OpenAt F)
    (start : ℕ) (moved : Bool) (t : DiskState) (g : OpenAt F) : Type 0 where
  pub keeps : KeepsBut (files.handle h.file) s t
  pub same : files.handle g.file ≡ files.handle h.file
  pub live : t.live (files.handle h.file) ≡ s.live (files.handle h.file)
  pub stands : SameStands (files.seen h.file s) (files.seen g.file t)
  pub becomes : files.becomes h.file g.file
  pub stays : h.place ≡ start → IsTrue moved × (t.asked ≡ s.asked)
  pub goes : h.place ≢ start → files.asks_once → AsksOnce s t
  pub at : IsTrue moved → IsAt files t g
  pub here : IsTrue moved → g.place ≡ start
  pub rose : IsFalse moved → Rose s.faults t.faults

-- A piece of a slice: not empty, and a front of the bytes that stand there now, or zeros where none stands.
pub record IsPieceOf {F : Type 0} (seen : F → DiskState → Option Seen) (s : DiskState) (h : OpenAt F) (slice : Slice)
    (most : ℕ) (piece : List ℕ) : Type 0 where
  pub some : 0 < length piece
  pub within : length piece ≤ slice.count
  pub told : (f : Seen) → seen h.file s ≡ Some f → PieceOf s.whole most
      (drop slice.start f.stands.bytes) slice.count piece

-- A piece of n bytes stands at the front of the buffer, or a fault was met.
pub record Fills {F : Type 0} (files : FileView F) (s : DiskState) (h : OpenAt F)
    (slice : Slice) (most : ℕ) (buffer : List ℕ) (result : Option ℕ) (t : DiskState) (g : OpenAt F) : Type 0 where
  pub keeps : KeepsBut (files.handle h.file) s t
  pub same : files.handle g.file ≡ files.handle h.file
  pub live : t.live (files.handle h.file) ≡ s.live (files.handle h.file)
  pub stands : SameStands (files.seen h.file s) (files.seen g.file t)
  pub becomes : files.becomes h.file g.file
  pub asks : files.asks_once → AsksToRead h.place slice.start (is_some result) s.asked t.asked
  pub answer : MatchOption result (Rose s.faults t.faults)
      (λ n. (n ≤ length buffer) × (n ≤ slice.count) × (0 < n) × IsPieceOf files.seen s h slice most (take n buffer)
      × IsAt files t g)
