-- What the steps of a fetch come to, each by its result.
use Rattle.std.specs.Prelude.{◌≡◌, ◌≤◌, ◌⊎◌, ℕ, List, [], ◌∷◌, length, drop, None, Result, Ok, Err}
use Rattle.dav_io.specs.Counts.{Rose}
use Rattle.dav_core.specs.Path.{Names}
use Rattle.dav_fetch.specs.declared.error.MirrorError.{MirrorError}
use Rattle.dav_fetch.specs.declared.error.MirrorError.TheVariants.{Peer as PeerFailed, Refused, NotAPage, BadReply, Short, TooLong, Budget, NoMemory}
use Rattle.dav_fetch.specs.declared.walking.Walked.{Walked}
use Rattle.dav_fetch.specs.Fetching.{AtPage, IsPageVisit, PageEnds, Visited, WholeVisits}
use Rattle.dav_fetch.specs.Peer.{PeerState}
use Rattle.dav_fetch.specs.Walk.{Pages, Visit, Way, start}

-- A request that may be made got no answer.
abbrev pub NotGot : MirrorError → PeerState → PeerState → Type 0
NotGot PeerFailed s t = Rose s.faults t.faults × (t.path ≡ None)
NotGot NoMemory s t = s.faults ≤ t.faults
NotGot (Refused p status) s t = ⊥
NotGot (NotAPage p) s t = ⊥
NotGot (BadReply p) s t = ⊥
NotGot (Short p got announced) s t = ⊥
NotGot (TooLong p) s t = ⊥
NotGot (Budget m) s t = ⊥

-- A page was asked for in vain.
abbrev pub PageFails : Names → PeerState → MirrorError → PeerState → Type 0
PageFails dir s e t = NotGot e s t ⊎ ((visit : Visit) × (m : PeerState) × Visited s visit m × IsPageVisit dir visit
    × PageEnds dir visit e m t)

-- The pages were read so far, and then this is due.
pub record StopsAt (s : PeerState) (most : ℕ) (e : MirrorError) (t : PeerState) : Type 0 where
  pub visits : List Visit
  pub way : Way
  pub dir : Names
  pub due : List Names
  pub mid : PeerState
  pub last : List Visit
  pub chain : WholeVisits s visits mid
  pub read : Pages start visits way
  pub is_due : way.due ≡ dir ∷ due
  pub within : length visits ≤ most
  pub at : AtPage dir (record { made = length visits; most = most }) e (record { before = mid; visits = last; after = t })

abbrev pub WalksTo : PeerState → ℕ → Result Walked MirrorError → PeerState → Type 0
WalksTo s most (Ok w) t = (visits : List Visit) × WholeVisits s visits t
    × Pages start visits (record { due = []; dirs = drop 1 w.dirs.items; files = w.files.items })
    × (w.made ≡ length visits) × (w.made ≤ most)
WalksTo s most (Err e) t = StopsAt s most e t
