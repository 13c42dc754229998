use Rattle.std.specs.Prelude.{IsSome}
use Rattle.memory_rows.proofs.trees.add_paths.Given as goal

abbrev pub invariant-names : goal.invariant-names
invariant-names g l = IsSome ((g.D.Disk.state l.disk).listers l.at.0)
