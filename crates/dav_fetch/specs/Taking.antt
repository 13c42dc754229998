-- What the visit of one file comes to, by its result.
use Rattle.std.specs.Prelude.{◌≡◌, ◌<◌, ◌≤◌, ◌⊎◌, ℕ, List, length, Option, Some, Result, Ok, Err}
use Rattle.dav_io.specs.Counts.{Rose}
use Rattle.dav_core.specs.DavPath.{WebPath}
use Rattle.dav_core.specs.Path.{Names}
use Rattle.dav_fetch.specs.declared.copied.Kept.{Kept}
use Rattle.dav_fetch.specs.declared.error.MirrorError.{MirrorError}
use Rattle.dav_fetch.specs.declared.error.MirrorError.TheVariants.{Peer as PeerFailed, Short, NoMemory}
use Rattle.dav_fetch.specs.declared.taking.Taken.{Taken}
use Rattle.dav_fetch.specs.Asking.{file_path}
use Rattle.dav_fetch.specs.Fetching.{FileEnds, IsFileVisit, IsWhole, NotAsked, Visited, taken}
use Rattle.dav_fetch.specs.Judging.{Use, grown}
use Rattle.dav_fetch.specs.Peer.{PeerState}
use Rattle.dav_fetch.specs.Reading.{IsOver, ReadOn}
use Rattle.dav_fetch.specs.Steps.{NotGot}
use Rattle.dav_fetch.specs.Walk.{Visit}

-- Why the reading of so many bytes ended, where these came.
abbrev pub BytesEnd : WebPath → ℕ → List ℕ → Result Unit MirrorError → PeerState → PeerState → Type 0
BytesEnd path n came (Ok x) s t = (n ≤ length came) × (t ≡ s)
BytesEnd path n came (Err (Short p got announced)) s t = (p ≡ path) × (got ≡ length came) × (announced ≡ n) × (got < n) × IsOver t × (t ≡ s)
BytesEnd path n came (Err PeerFailed) s t = (length came < n) × Rose s.faults t.faults × (t.path ≡ s.path)
BytesEnd path n came (Err NoMemory) s t = s.faults ≤ t.faults
BytesEnd path n came (Err e) s t = ⊥

-- So many bytes were read of a file, as far as they came.
pub record ReadsFile (path : WebPath) (f : Kept) (n : ℕ) (s : PeerState) (result : Taken) (t : PeerState) : Type 0 where
  pub came : List ℕ
  pub at : PeerState
  pub read : ReadOn s came at
  pub kept : result.kept ≡ Some (grown f n came)
  pub ends : BytesEnd path n came result.ended at t

-- A visit ended so.
abbrev pub VisitEnds : Names → Use → Visit → Result Unit MirrorError → PeerState → PeerState → Type 0
VisitEnds path worth visit (Ok x) s t = IsWhole worth visit.came × (t ≡ s)
VisitEnds path worth visit (Err e) s t = FileEnds path worth visit e s t

pub record VisitsFile (path : Names) (old : Option Kept) (s : PeerState) (result : Taken) (t : PeerState) : Type 0 where
  pub visit : Visit
  pub worth : Use
  pub at : PeerState
  pub visited : Visited s visit at
  pub is : IsFileVisit path old visit worth
  pub kept : result.kept ≡ taken old worth visit.came
  pub ends : VisitEnds path worth visit result.ended at t

-- No answer came, and what is kept stays.
abbrev pub StaysFor : (MirrorError → Type 0) → Option Kept → Taken → Type 0
StaysFor Why old result = (e : MirrorError) × (result.ended ≡ Err e) × (result.kept ≡ old) × Why e

abbrev pub AsksFile : Names → Option Kept → PeerState → Taken → PeerState → Type 0
AsksFile path old s result t = VisitsFile path old s result t ⊎ StaysFor (λ e. NotGot e s t) old result

abbrev pub TakesFile : Names → Option Kept → ℕ → ℕ → PeerState → Taken → PeerState → Type 0
TakesFile path old made most s result t = ((made < most) × VisitsFile path old s result t)
    ⊎ StaysFor (λ e. NotAsked (file_path path) made most e s t) old result
