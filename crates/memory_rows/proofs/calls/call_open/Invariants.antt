use Rattle.std.specs.Prelude.{IsSome}
use Rattle.memory_rows.proofs.calls.call_open.Given as goal

abbrev pub invariant-loop-word : goal.invariant-loop-word
invariant-loop-word g l = IsSome ((g.D.Disk.state l.disk).live l.file.0)
