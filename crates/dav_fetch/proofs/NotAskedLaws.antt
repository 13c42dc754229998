-- Why a request that may be made got no answer.
use Rattle.std.proofs.Common.{inr, ◌<◌, ℕ}
use Rattle.dav_core.specs.DavPath.{WebPath}
use Rattle.dav_fetch.specs.declared.error.MirrorError.{MirrorError}
use Rattle.dav_fetch.specs.declared.error.MirrorError.TheVariants.{Peer as PeerFailed, Refused, Short, Budget, NoMemory}
use Rattle.dav_fetch.specs.Fetching.{NotAsked, link_is_short}
use Rattle.dav_fetch.specs.Peer.{PeerState}
use Rattle.dav_fetch.specs.Steps.{NotGot}

pub not_got : (path : WebPath) (made most : ℕ) (e : MirrorError) (s t : PeerState) → made < most → link_is_short path → NotGot e s t → NotAsked path made most e s t
not_got path made most PeerFailed s t few short h = (short, few, h.0, h.1)
not_got path made most NoMemory s t few short h = inr (few, short, h)
not_got path made most (Refused p status) s t few short h = absurd h
not_got path made most (Short p got announced) s t few short h = absurd h
not_got path made most (Budget m) s t few short h = absurd h
not_got path made most other s t few short h = absurd h
