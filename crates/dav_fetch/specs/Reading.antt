-- The body of a reply, read piece by piece.
use Rattle.std.specs.Prelude.{◌≡◌, ◌<◌, ◌≤◌, ℕ, List, [], length, Bool, true, false, Some}
use Rattle.dav_io.specs.Counts.{Rose}
use Rattle.dav_io.specs.Told.{Both}
use Rattle.dav_core.specs.World.{SameBesidesOpens}
use Rattle.dav_fetch.specs.declared.reading.Ended.{Ended}
use Rattle.dav_fetch.specs.declared.reading.Ended.TheVariants.{Over, Full, Failed, NoMemory}
use Rattle.dav_fetch.specs.Peer.{PeerState, Seen, Came}

-- These bytes of the body came, one piece after the other.
pub record ReadOn (s : PeerState) (came : List ℕ) (t : PeerState) : Type 0 where
  pub counts : s.faults ≤ t.faults
  pub told : Both s.told t.told (Came came)
  pub stands : Both s.world t.world SameBesidesOpens
  pub path : t.path ≡ s.path

-- the end of the body was met, where the peer tells
abbrev pub IsOver : PeerState → Type 0
IsOver t = (v : Seen) → t.told ≡ Some v → v.left ≡ []

-- All of the body came, or as many bytes as are due, and maybe more; or the peer failed behind what came.
abbrev pub EndsAs : Ended → ℕ → List ℕ → PeerState → PeerState → Type 0
EndsAs Over due came m t = (t ≡ m) × IsOver m × (length came < due)
EndsAs Full due came m t = (t ≡ m) × (due ≤ length came)
EndsAs Failed due came m t = Rose m.faults t.faults × (length came < due) × (t.path ≡ m.path)
EndsAs NoMemory due came m t = Unit {0}

-- A body was read up to so many bytes, and gave these.
pub record ReadsTo (s : PeerState) (due : ℕ) (came : List ℕ) (ended : Ended) (t : PeerState) : Type 0 where
  pub at : PeerState
  pub read : ReadOn s came at
  pub counts : at.faults ≤ t.faults
  pub ends : EndsAs ended due came at t

-- the peer failed
abbrev pub is_failed_end : Ended → Bool
is_failed_end Over = false
is_failed_end Full = false
is_failed_end Failed = true
is_failed_end NoMemory = false
