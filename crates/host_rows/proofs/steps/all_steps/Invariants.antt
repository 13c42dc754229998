use Rattle.std.proofs.Common.{◌≡◌}
use Rattle.host_rows.proofs.steps.all_steps.Given as goal

-- the file stays open
abbrev pub invariant-loop-word : goal.invariant-loop-word
invariant-loop-word g l = (g.D.Disk.state l.disk).live l.file.0 ≡ (g.D.Disk.state l.initial.disk).live l.file.0
