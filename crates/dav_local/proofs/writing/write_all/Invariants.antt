use Rattle.std.proofs.Common.{◌≡◌, length}
use Rattle.dav_local.proofs.WriteLoops.{Kept}
use Rattle.dav_local.proofs.writing.write_all.Given as goal

-- what is left, and the loan
abbrev pub invariant-loop-rest : goal.invariant-loop-rest
invariant-loop-rest g l = Kept l.initial.file.0 (g.D.Disk.state l.initial.disk) l.bytes (g.D.Disk.state l.disk) l.rest
    × (g.D.Disk.loan l.disk ≡ g.D.Disk.loan l.initial.disk)

abbrev pub decreases-loop-rest : goal.decreases-loop-rest
decreases-loop-rest g l = length l.rest
