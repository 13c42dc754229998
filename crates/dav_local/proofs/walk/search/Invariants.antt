use Rattle.std.proofs.Common.{◌≡◌}
use Rattle.dav_local.proofs.Counted.{Passing}
use Rattle.dav_local.proofs.Seeking.{Seeks, bound}
use Rattle.dav_local.proofs.walk.search.Given as goal

-- what was read is of other foldings, the loan, and the calls so far
abbrev pub invariant-loop-name : goal.invariant-loop-name
invariant-loop-name g l = Seeks (g.D.Disk.state l.initial.disk) l.lister.0 l.folding (g.D.Disk.state l.disk) × (g.D.Disk.loan l.disk ≡ g.D.Disk.loan l.initial.disk) × Passing (g.D.Disk.state l.initial.disk) l.lister.0 (g.D.Disk.state l.disk)

abbrev pub decreases-loop-name : goal.decreases-loop-name
decreases-loop-name g l = bound ((g.D.Disk.state l.disk).listers l.lister.0)
