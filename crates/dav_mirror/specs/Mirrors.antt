-- How a mirror ends: what is written, and with which status, by what the fetch answered.
use Rattle.std.specs.Prelude.{◌≡◌, ◌<◌, ◌≤◌, ◌⊎◌, ℕ, List, ◌++◌, [], ◌∷◌, length, take, true, Option, None, Some, Result, Ok, Err, IfOk, IsErr}
use Rattle.dav_io.specs.Counts.{RefusedNothing, Rose}
use Rattle.dav_io.specs.Outside.{Stream}
use Rattle.dav_io.specs.Told.{Both}
use Rattle.dav_io.specs.declared.failure.NoMemory.{NoMemory}
use Rattle.dav_core.specs.DavPath.{WebPath}
use Rattle.dav_core.specs.Disk.{DiskState}
use Rattle.dav_core.specs.World.{IsWorld, World}
use Rattle.dav_fetch.specs.declared.copied.Copied.{Copied}
use Rattle.dav_fetch.specs.declared.error.MirrorError.{MirrorError}
use Rattle.dav_fetch.specs.declared.error.MirrorError.TheVariants.{Peer as PeerFailed, NoMemory as LacksMemory}
use Rattle.dav_fetch.specs.Fetching.{Fetched, visits_of}
use Rattle.dav_fetch.specs.Mirroring.{IsLinkless, IsMirror, IsWithinLimits, visible_rows}
use Rattle.dav_fetch.specs.Peer.{PeerState, Seen}
use Rattle.dav_fetch.specs.Walk.{Visit}
use Rattle.dav_mirror.specs.Came.{CameOf}
use Rattle.dav_mirror.specs.Lines.{lines_of}
use Rattle.dav_mirror.specs.Report.{copy_report}
use Rattle.dav_mirror.specs.Seen.{seen_in}
use Rattle.dav_mirror.specs.declared.report.Report.{Report}
use Rattle.dav_mirror.specs.declared.report.Report.TheVariants.{Broken, Ended}

-- how many requests may be made
abbrev pub most_requests : ℕ
most_requests = 1000000

-- A front of these bytes was written, and all of them at status 0.
abbrev pub FrontWritten : List ℕ → Result ℕ NoMemory → List ℕ → List ℕ → Type 0
FrontWritten bytes result old new = (count : ℕ) × (new ≡ old ++ take count bytes) × (result ≡ Ok 0 → new ≡ old ++ bytes)

-- These bytes were written, with status 0; or a front of them, where the sink failed, with status 4, or memory was
-- refused.
pub record Writes (bytes : List ℕ) (old : Stream) (result : Result ℕ NoMemory) (new : Stream) : Type 0 where
  pub counts : old.faults ≤ new.faults
  pub status : IfOk result (λ status. (status ≡ 0) ⊎ ((status ≡ 4) × Rose old.faults new.faults))
  pub told : Both old.bytes new.bytes (FrontWritten bytes result)

-- the status of an error
abbrev pub status_of : MirrorError → Result ℕ NoMemory
status_of PeerFailed = Ok 5
status_of LacksMemory = Err (record {})
status_of other = Ok 8

-- What a mirror over a disk whose count of faults went so far gives and writes, by what the fetch answered: the lines of
-- the copy; 5, where the peer failed, so that the disk's count rose; 8 for each other error but want of memory. No byte is
-- written behind an error.
abbrev pub EndsBy : Result Unit MirrorError → Copied → (before after : ℕ) → Stream → Result ℕ NoMemory → Stream → Type 0
EndsBy (Ok x) copy before after old result new = Writes (lines_of copy.files) old result new
EndsBy (Err PeerFailed) copy before after old result new = (new ≡ old) × (result ≡ Ok 5) × Rose before after
EndsBy (Err LacksMemory) copy before after old result new = (new ≡ old) × IsErr result
EndsBy (Err other) copy before after old result new = (new ≡ old) × (result ≡ Ok 8)

-- the peer over a disk of which nothing was asked yet: it tells the disk's world, and stands on it
abbrev pub peer_at : DiskState → PeerState
peer_at s = record { told = seen_in (λ tree. true) [] [] s.told; world = s.told; path = None; faults = s.faults }

-- The last reply that was read is one to this path. The peer names it at the end, so no request behind it failed: its
-- body did.
pub record BrokeAt (path : WebPath) (visits : List Visit) (last : PeerState) : Type 0 where
  pub before : List Visit
  pub visit : Visit
  pub are : visits ≡ before ++ visit ∷ []
  pub to : visit.path ≡ path
  pub named : last.path ≡ Some path

-- What is told of a fetch: what its copy has; in the body of which path's reply the peer failed; or why else it ended,
-- with the path.
abbrev pub Reports : Result Unit MirrorError → Copied → List Visit → PeerState → Option Report → Type 0
Reports (Ok x) copy visits last report = report ≡ Some (copy_report copy)
Reports (Err PeerFailed) copy visits last report = (path : WebPath) × (report ≡ Some (Broken path)) × BrokeAt path visits last
Reports (Err e) copy visits last report = report ≡ Some (Ended e)

-- A tree was fetched into a copy of nothing from a peer over the disk, and it ended so, which is reported. The peer has
-- the disk's count, and tells no other world at the end than the disk's. Whatever stands there and however it ends, the disk is as so many
-- batches of the outside's changes make it, one at most for each request that may be made; and no more is open than was,
-- but the file of the last reply where that wasn't read to its end.
pub record Mirrors (before after : DiskState) (old : Stream) (result : Result ℕ NoMemory) (new : Stream) (report : Option Report) : Type 0 where
  pub last : PeerState
  pub faults : last.faults ≡ after.faults
  pub tells : (v : Seen) → last.told ≡ Some v → after.told ≡ Some v.world
  pub copy : Copied
  pub answer : Result Unit MirrorError
  pub fetched : Fetched (peer_at before) (record { dirs = []; files = [] }) most_requests answer last copy
  pub ends : EndsBy answer copy before.faults after.faults old result new
  pub reports : Reports answer copy (visits_of fetched) last report
  pub file : Option ℕ
  pub turns : ℕ
  pub few : turns ≤ most_requests
  pub came : CameOf before turns file after

-- ---- a tree that stands still

-- What is asked of a disk: it tells this world, of which nothing is to change, refused nothing, and on the way through what
-- is shown no link is met; and that is within the limits, and not too much.
pub record StandsStill (before after : DiskState) (w : World) : Type 0 where
  pub told : before.told ≡ Some w
  pub script : w.script ≡ []
  pub world : IsWorld w
  pub linkless : IsLinkless w
  pub nothing : RefusedNothing before.faults after.faults
  pub limits : IsWithinLimits w
  pub few : length (visible_rows w) < most_requests

-- The lines of the world's files are written, each with its length, in the order of their paths; or memory is refused,
-- and nothing is written.
abbrev pub Lists : World → Stream → Result ℕ NoMemory → Stream → Type 0
Lists w old result new = ((copy : Copied) × IsMirror w copy × Writes (lines_of copy.files) old result new)
    ⊎ ((new ≡ old) × IsErr result)
