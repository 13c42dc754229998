-- Calls in which the peer's count didn't rise, and what came of a told reply.
use Rattle.std.proofs.Common.{◌≡◌, ◌≤◌, ◌<◌, inl, inr, ◌++◌, ℕ, List, [], ◌∷◌, Option, None, Some, refl, sym, ap, subst, ◌∙◌, arith, append-nil}
use Rattle.dav_io.specs.Counts.{RefusedNothing, Rose, greatest}
use Rattle.dav_io.specs.Told.{Both}
use Rattle.dav_core.specs.World.{World}
use Rattle.dav_fetch.specs.Fetching.{Visited, Visits}
use Rattle.dav_fetch.specs.Mirroring.{ShowsSame}
use Rattle.dav_fetch.specs.Peer.{Came, PeerState, RepliesIn, RepliesOf, Seen}
use Rattle.dav_fetch.specs.Reading.{IsOver, ReadOn}
use Rattle.dav_fetch.specs.Walk.{Visit}

pub quiet_first : (a b c : ℕ) → a ≤ b → b ≤ c → RefusedNothing a c → RefusedNothing a b
quiet_first a b c ab bc nothing = let same = nothing.same in let room = nothing.room in record { same = omega (arith, same, ab, bc); room = omega (arith, room, bc) }

pub quiet_rest : (a b c : ℕ) → a ≤ b → b ≤ c → RefusedNothing a c → RefusedNothing b c
quiet_rest a b c ab bc nothing = let same = nothing.same in let room = nothing.room in record { same = omega (arith, same, ab, bc); room = room }

-- A count that rose without being full is larger.
pub risen : (a b : ℕ) → b < greatest → Rose a b → a ≤ b
risen a b room (inl more) = omega (arith, more)
risen a b room (inr full) = absurd (omega (arith, room, full))

pub visit_counts : (s t : PeerState) (visit : Visit) → Visited s visit t → s.faults ≤ t.faults
visit_counts s t visit visited = let first = visited.counts in let second = visited.read.counts in omega (arith, first, second)

pub visits_count : (s t : PeerState) (visits : List Visit) → Visits s visits t → s.faults ≤ t.faults
visits_count s t [] same = let e : t.faults ≡ s.faults = ap (λ (x : PeerState). x.faults) same in omega (arith, e)
visits_count s t (v ∷ vs) (m, visited, visits) = let first = visit_counts s m v visited in let second = visits_count m t vs visits in omega (arith, first, second)

-- ---- a told reply

abbrev pub IsToldOf : World → Visit → Type 0
IsToldOf w visit = (v : World) × (visit.world ≡ Some v) × ShowsSame w v

-- The reply of a visit, over a world that shows the same.
pub record ToldReply (w : World) (s : PeerState) (visit : Visit) (at : PeerState) : Type 0 where
  pub world : World
  pub same : ShowsSame w world
  pub now : Seen
  pub told : at.told ≡ Some now
  pub reply : RepliesOf world visit.path visit.asked (Rose s.faults at.faults) visit.got now.left

pub told_reply : (w : World) (s t : PeerState) (visit : Visit) → IsToldOf w visit → (visited : Visited s visit t) → ToldReply w s visit visited.at
told_reply w s t visit (v, is, same) visited =
    let (now, told, then, reply) = subst (λ o. RepliesIn o visit.path visit.asked (Rose s.faults visited.at.faults) visit.got visited.at.told) is visited.is in
    record { world = v; same = same; now = now; told = told; reply = reply }

-- what came is a front of the body
pub came_left : (at t : PeerState) (now : Seen) (came : List ℕ) → at.told ≡ Some now → ReadOn at came t → (more : List ℕ) × (now.left ≡ came ++ more) × (IsOver t → more ≡ [])
came_left at t now came told read = by at.told t.told told refl read.told
  where
    by : (a b : Option Seen) → a ≡ Some now → t.told ≡ b → Both a b (Came came) → (more : List ℕ) × (now.left ≡ came ++ more) × (IsOver t → more ≡ [])
    by None b e f h = cc
    by (Some x) None e f h = absurd h
    by (Some x) (Some y) e f h = let same : x ≡ now = cc in (y.left, ap (λ (z : Seen). z.left) (sym same) ∙ h.1, λ over. over y f)

-- and all of it, where the end was met
pub came_over : (at t : PeerState) (now : Seen) (came : List ℕ) → at.told ≡ Some now → ReadOn at came t → IsOver t → came ≡ now.left
came_over at t now came told read over =
    let (more, left, none) = came_left at t now came told read in
    sym (left ∙ ap (λ z. came ++ z) (none over) ∙ append-nil came)
