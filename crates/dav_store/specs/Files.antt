-- What the calls of an open file do, where it is told what it is.
use Rattle.std.specs.Prelude.{◌≡◌, ◌≤◌, ◌<◌, ◌+◌, ◌&&◌, ◌⊎◌, ℕ, List, [], length, take, drop, min, Bool, true, false, Option, None, Some, IfSome, Result, Ok, Err, IfOk, OnErr, if◌then◌else◌}
use Rattle.std.specs.List.{list_all}
use Rattle.dav_io.specs.Counts.{Rose, one_more}
use Rattle.dav_io.specs.Told.{Both}
use Rattle.dav_core.specs.declared.error.FsError.{FsError}
use Rattle.dav_core.specs.declared.error.FsError.TheVariants.{GeneralFailure, NoMemory}
use Rattle.dav_core.specs.Disk.{DiskState, Live, can_read, kind_at}
use Rattle.dav_core.specs.Info.{Info}
use Rattle.dav_core.specs.Unchanged.{Keeps, KeepsBut, SameBesidesFiles, SameOpen}
use Rattle.dav_core.specs.Writing.{can_write, written}
use Rattle.dav_store.specs.Frames.{KeepsOpenBut}
use Rattle.dav_store.specs.Standing.{Seen, AgreesOpen}
use Rattle.dav_core.specs.DavPath.{is_printable}

-- the same file at the same place
abbrev pub SameSeen : Option Seen → Option Seen → Type 0
SameSeen a b = Both a b (λ f g. (g.stands.number ≡ f.stands.number) × (g.place ≡ f.place))

-- what others leave of a handle: what it has open, and how it was opened
pub record LeavesOpen (h : ℕ) (s t : DiskState) : Type 0 where
  pub opened : Both s.told t.told (SameOpen h)
  pub live : t.live h ≡ s.live h

-- refused because of a fault that was met
abbrev pub IsFault : {T : Type 0} → DiskState → Result T FsError → DiskState → Type 0
IsFault s result t = (result ≡ Err GeneralFailure) × Rose s.faults t.faults

-- a fault was met, or want of memory
abbrev pub Spoiled : {T : Type 0} → DiskState → Result T FsError → DiskState → Type 0
Spoiled s result t = IsFault s result t ⊎ (result ≡ Err NoMemory)

-- one call of the disk was asked
abbrev pub AsksOnce : DiskState → DiskState → Type 0
AsksOnce s t = t.asked ≡ one_more s.asked

-- one call was asked, or none
abbrev pub AsksAtMostOnce : DiskState → DiskState → Type 0
AsksAtMostOnce s t = (t.asked ≡ s.asked) ⊎ AsksOnce s t

-- One call was asked; where memory was refused maybe none.
abbrev pub AsksToGive : {A : Type 0} → Result A FsError → DiskState → DiskState → Type 0
AsksToGive (Err NoMemory) s t = AsksAtMostOnce s t
AsksToGive result s t = AsksOnce s t

-- The metadata of the file as it is now.
pub record FileSays (s : DiskState) (h : ℕ) (seen : Option Seen) (result : Result Info FsError) (t : DiskState)
    (after : Option Seen) : Type 0 where
  pub keeps : Keeps s t
  pub asked : AsksOnce s t
  pub same : after ≡ seen
  pub refused : OnErr result (IsFault s result t)
  pub kind : IfOk result (λ info. kind_at s h ≡ Some info.kind)
  pub told : IfOk result (λ info. IfSome seen (λ f. AgreesOpen info f.stands))

-- The place is set.
abbrev pub SeeksIn : ℕ → Result ℕ FsError → Seen → Seen → Type 0
SeeksIn place (Ok n) f g = g ≡ record f { place = place }
SeeksIn place (Err e) f g = g ≡ f

pub record FileSeeks (s : DiskState) (h : ℕ) (seen : Option Seen) (place : ℕ) (result : Result ℕ FsError)
    (t : DiskState) (after : Option Seen) : Type 0 where
  pub keeps : KeepsBut h s t
  pub live : t.live h ≡ s.live h
  pub refused : can_read (s.live h) ≡ true → OnErr result (IsFault s result t)
  pub answer : IfOk result (λ n. n ≡ place)
  pub told : Both seen after (SeeksIn place result)

-- the bytes from its place on
abbrev pub rest_of : Seen → List ℕ
rest_of f = drop f.place f.stands.bytes

abbrev pub moved_by : ℕ → Seen → Seen
moved_by n f = record f { place = f.place + n }

-- Bytes from its place on went to the front of the buffer. None came only where none stands there. A whole read gives
-- all that stand there and fit.
abbrev pub ReadsIn : Bool → List ℕ → Result ℕ FsError → Seen → Seen → Type 0
ReadsIn whole buffer (Ok n) f g = (n ≤ length (rest_of f)) × (take n buffer ≡ take n (rest_of f))
    × (n ≡ 0 → rest_of f ≡ [])
    × (whole ≡ true → n ≡ min (length buffer) (length (rest_of f))) × (g ≡ moved_by n f)
ReadsIn whole buffer (Err e) f g = g ≡ f

pub record FileReads (s : DiskState) (h : ℕ) (seen : Option Seen) (buffer : List ℕ) (result : Result ℕ FsError)
    (t : DiskState) (after : Option Seen) : Type 0 where
  pub keeps : KeepsBut h s t
  pub live : t.live h ≡ s.live h
  pub refused : can_read (s.live h) ≡ true → OnErr result (IsFault s result t)
  pub within : IfOk result (λ n. n ≤ length buffer)
  pub told : Both seen after (ReadsIn s.whole buffer result)

-- The same bytes as a value of their own. Where its memory is refused, the place may have moved on.
abbrev pub GivesIn : Bool → ℕ → Result (List ℕ) FsError → Seen → Seen → Type 0
GivesIn whole count (Ok bytes) f g = (bytes ≡ take (length bytes) (rest_of f)) × (bytes ≡ [] → rest_of f ≡ [])
    × (whole ≡ true → length bytes ≡ min count (length (rest_of f))) × (g ≡ moved_by (length bytes) f)
GivesIn whole count (Err NoMemory) f g = (n : ℕ) × (n ≤ length (rest_of f)) × (n ≤ count) × (g ≡ moved_by n f)
GivesIn whole count (Err e) f g = g ≡ f

pub record FileGives (s : DiskState) (h : ℕ) (seen : Option Seen) (count : ℕ) (result : Result (List ℕ) FsError)
    (t : DiskState) (after : Option Seen) : Type 0 where
  pub keeps : KeepsBut h s t
  pub live : t.live h ≡ s.live h
  pub refused : can_read (s.live h) ≡ true → OnErr result (Spoiled s result t)
  pub within : IfOk result (λ bytes. length bytes ≤ count)
  pub told : Both seen after (GivesIn s.whole count result)

-- the address that it has
abbrev pub Redirects : DiskState → Result (Option (List ℕ)) FsError → DiskState → Seen → Type 0
Redirects s (Ok address) t f = address ≡ f.stands.redirect
Redirects s (Err e) t f = Spoiled {T = Option (List ℕ)} s (Err e) t

pub record FileRedirects (s : DiskState) (seen : Option Seen) (result : Result (Option (List ℕ)) FsError)
    (t : DiskState) (after : Option Seen) : Type 0 where
  pub keeps : Keeps s t
  pub asked : AsksAtMostOnce s t
  pub same : after ≡ seen
  pub refused : OnErr result (Spoiled s result t)
  pub printable : IfOk result (λ address. IfSome address (λ text. list_all is_printable text ≡ true))
  pub told : IfSome seen (Redirects s result t)

-- Nothing is left to write out.
pub record FileFlushes (s : DiskState) (seen : Option Seen) (result : Result Unit FsError) (t : DiskState)
    (after : Option Seen) : Type 0 where
  pub done : result ≡ Ok tt
  pub disk : t ≡ s
  pub same : after ≡ seen

-- the place at which a file is written: its end, where it was opened to append
abbrev pub write_place : Option Live → Seen → ℕ
write_place None f = f.place
write_place (Some l) f = if l.how.append then length f.stands.bytes else f.place

-- These bytes stand in the file, and its place is behind them.
pub record IsWritten (place : ℕ) (from : List ℕ) (f g : Seen) : Type 0 where
  pub number : g.stands.number ≡ f.stands.number
  pub kind : g.stands.kind ≡ f.stands.kind
  pub bytes : g.stands.bytes ≡ written place from f.stands.bytes
  pub len : g.stands.len ≡ length g.stands.bytes
  pub placed : g.place ≡ place + length from

-- A refused write may have written a front.
abbrev pub WritesIn : Option Live → List ℕ → Result Unit FsError → Seen → Seen → Type 0
WritesIn l from (Ok x) f g = (from ≡ [] → g ≡ f) × (0 < length from → IsWritten (write_place l f) from f g)
WritesIn l from (Err e) f g = (g ≡ f) ⊎ ((n : ℕ) × (0 < n) × (n ≤ length from)
    × IsWritten (write_place l f) (take n from) f g)

pub record FileWrites (s : DiskState) (h : ℕ) (seen : Option Seen) (from : List ℕ) (result : Result Unit FsError)
    (t : DiskState) (after : Option Seen) : Type 0 where
  pub keeps : KeepsOpenBut h s t
  pub live : t.live h ≡ s.live h
  -- of the world only bytes and times
  pub world : Both s.told t.told SameBesidesFiles
  -- a file that was opened for it is refused only where a fault was met, or want of memory
  pub refused : can_write (s.live h) ≡ true → OnErr result (Spoiled s result t)
  -- one that wasn't opened for it is as it was
  pub shut : can_write (s.live h) ≡ false → after ≡ seen
  pub told : Both seen after (WritesIn (s.live h) from result)

-- The file is open no more.
pub record FileCloses (s : DiskState) (h : ℕ) (t : DiskState) : Type 0 where
  pub keeps : KeepsBut h s t
  pub counts : t.faults ≡ s.faults
  pub asked : t.asked ≡ s.asked
  pub live : t.live h ≡ None
