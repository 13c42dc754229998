use Rattle.std.proofs.Common.{◌≡◌}
use Rattle.dav_local.proofs.Filling.{Filling}
use Rattle.dav_local.proofs.listing.fill.Given as goal

-- how many names are to be read, and the loan
abbrev pub invariant-loop-left : goal.invariant-loop-left
invariant-loop-left g l = Filling (g.D.Disk.state l.initial.disk) l.initial.dir l.left (g.D.Disk.state l.disk) l.dir × (g.D.Disk.loan l.disk ≡ g.D.Disk.loan l.initial.disk)

abbrev pub decreases-loop-left : goal.decreases-loop-left
decreases-loop-left g l = l.left
