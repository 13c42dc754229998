use Rattle.std.proofs.Common.{◌≡◌, ◌≤◌, ◌-◌, List, false, length}
use Rattle.dav_core.specs.Disk.{DiskState}
use Rattle.dav_fetch.specs.Fetching.{WholeVisits}
use Rattle.dav_fetch.specs.Peer.{Counts}
use Rattle.dav_fetch.specs.Walk.{Pages, Visit, start, way_of}
use Rattle.dav_fetch.proofs.walking.walk.Given as goal

abbrev pub invariant-loop-at : goal.invariant-loop-at
invariant-loop-at g l = (visits : List Visit) × WholeVisits (g.P.Peer.state l.initial.peer) visits (g.P.Peer.state l.peer)
    × Pages start visits (way_of l.at l.walked.dirs.items l.walked.files.items)
    × (l.walked.made ≡ length visits) × (l.walked.made ≤ l.most) × (l.at ≤ length l.walked.dirs.items)
    × (g.P.Peer.loan l.peer ≡ g.P.Peer.loan l.initial.peer)
    × Counts l.walked.made false (g.P.Peer.calls l.initial.peer) (g.P.Peer.calls l.peer)
    × ((s : DiskState) → g.P.Peer.since l.initial.peer s → g.P.Peer.since l.peer s)

abbrev pub decreases-loop-at : goal.decreases-loop-at
decreases-loop-at g l = l.most - l.walked.made
