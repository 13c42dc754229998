-- What comes of the files at some paths.
use Rattle.std.specs.Prelude.{ℕ, ◌+◌, ◌≤◌, List, length}
use Rattle.dav_core.specs.Path.{Names}
use Rattle.dav_fetch.specs.declared.copied.Kept.{Kept}
use Rattle.dav_fetch.specs.declared.fetching.Gathered.{Gathered}
use Rattle.dav_fetch.specs.Fetching.{Files, FilesEnd, Visits}
use Rattle.dav_fetch.specs.Peer.{PeerState}
use Rattle.dav_fetch.specs.Walk.{Visit}

pub record Gathers (old : List Kept) (paths : List Names) (made most : ℕ) (s : PeerState) (result : Gathered) (t : PeerState) : Type 0 where
  pub visits : List Visit
  pub last : List Visit
  pub got : List Kept
  pub left : List Names
  pub took : Files old paths visits got left
  pub mid : PeerState
  pub chain : Visits s visits mid
  pub within : made + length visits ≤ most
  pub ends : FilesEnd left (record { old = old; got = got; new = result.files.items })
      (record { made = made + length visits; most = most }) result.ended (record { before = mid; visits = last; after = t })
