use Rattle.std.proofs.Common.{◌≡◌, ◌≤◌, ◌+◌, ◌-◌, List, false, drop, length, reverse, vec_len, vec_capacity}
use Rattle.dav_core.specs.Disk.{DiskState}
use Rattle.dav_fetch.specs.Keeping.{AreInOrder}
use Rattle.dav_fetch.specs.Peer.{Counts}
use Rattle.dav_fetch.specs.Walk.{Visit}
use Rattle.dav_fetch.proofs.Gathered.{Gone}
use Rattle.dav_fetch.proofs.Orders.{SameAt}
use Rattle.dav_fetch.proofs.fetching.gather.Given as goal

abbrev pub invariant-loop-at : goal.invariant-loop-at
invariant-loop-at g l = (visits : List Visit)
    × Gone l.fn.old.items l.paths (record { before = g.P.Peer.state l.fn.peer; visits = visits; after = g.P.Peer.state l.peer })
    l.files.items (drop l.at l.paths)
    × (l.made ≡ l.fn.made + length visits) × (l.made ≤ l.most)
    × SameAt l.fn.old.items (reverse l.old.items) (drop l.at l.paths) × AreInOrder (reverse l.old.items)
    × (vec_len l.files + length (drop l.at l.paths) ≤ vec_capacity l.files) × (l.at ≤ length l.paths)
    × (g.P.Peer.loan l.peer ≡ g.P.Peer.loan l.fn.peer)
    × Counts (length visits) false (g.P.Peer.calls l.fn.peer) (g.P.Peer.calls l.peer)
    × ((s : DiskState) → g.P.Peer.since l.fn.peer s → g.P.Peer.since l.peer s)

abbrev pub decreases-loop-at : goal.decreases-loop-at
decreases-loop-at g l = length l.paths - l.at
