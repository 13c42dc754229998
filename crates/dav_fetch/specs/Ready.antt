-- What a peer in memory has ready.
use Rattle.std.specs.Prelude.{◌≡◌, ℕ, List, [], ◌∷◌, drop, reverse, Contains, None}
use Rattle.dav_io.specs.Counts.{one_more}
use Rattle.dav_fetch.specs.declared.canned.Canned.{Canned}
use Rattle.dav_fetch.specs.declared.canned.MemPeer.{MemPeer}
use Rattle.dav_fetch.specs.declared.peer.Got.{Got}
use Rattle.dav_fetch.specs.Peer.{Calls, PeerState}

abbrev pub peer_state : MemPeer → PeerState
peer_state p = record { told = None; world = None; path = None; faults = p.faults.met }

-- It doesn't count its replies, each fault that it meets is a failure, and it asks no disk.
abbrev pub peer_calls : MemPeer → Calls
peer_calls p = record { replies = 0; failures = p.faults.met; turns = 0 }

-- the replies to come, in their order
abbrev pub coming : MemPeer → List Canned
coming p = reverse p.coming.items

-- what is left of the body of the last reply
abbrev pub left_in : MemPeer → List ℕ
left_in p = drop p.at p.body

-- The number of the next call stands in the schedule.
abbrev pub FailsNext : MemPeer → Type 0
FailsNext p = Contains p.faults.fail.items (one_more p.faults.asked)

abbrev pub IsNext : List Canned → List Canned → List ℕ → Got → Type 0
IsNext [] rest body got = (rest ≡ []) × (body ≡ []) × (got ≡ record { status = 404; headers = [] })
IsNext (reply ∷ replies) rest body got = (rest ≡ replies) × (body ≡ reply.body) × (got ≡ reply.got)

-- The next reply is given, and after the last 404.
abbrev pub GivesNext : MemPeer → MemPeer → Got → Type 0
GivesNext p q got = IsNext (coming p) (coming q) (left_in q) got
