use Rattle.std.proofs.Common.{◌≡◌, ◌-◌, ◌++◌, ℕ, List, false, length, take}
use Rattle.dav_core.specs.Disk.{DiskState}
use Rattle.dav_fetch.specs.Peer.{Counts}
use Rattle.dav_fetch.specs.Reading.{ReadOn}
use Rattle.dav_fetch.proofs.reading.read_up_to.Given as goal

abbrev pub invariant-loop-left : goal.invariant-loop-left
invariant-loop-left g l = (came : List ℕ) × ReadOn (g.P.Peer.state l.initial.peer) came (g.P.Peer.state l.peer)
    × (l.into.items ≡ l.fn.into.items ++ take l.due came) × (l.left ≡ l.due - length came) × (length l.buffer ≡ 4096)
    × (g.P.Peer.loan l.peer ≡ g.P.Peer.loan l.initial.peer)
    × Counts 0 false (g.P.Peer.calls l.initial.peer) (g.P.Peer.calls l.peer)
    × ((s : DiskState) → g.P.Peer.since l.initial.peer s → g.P.Peer.since l.peer s)

abbrev pub decreases-loop-left : goal.decreases-loop-left
decreases-loop-left g l = l.left
