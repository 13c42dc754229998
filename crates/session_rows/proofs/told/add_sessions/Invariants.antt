use Rattle.std.specs.Prelude.{All}
use Rattle.dav_disk.specs.Failing.{mem_state}
use Rattle.session_rows.specs.Told.{IsToldOf}
use Rattle.session_rows.proofs.told.add_sessions.Given as goal

abbrev pub invariant-loop-i : goal.invariant-loop-i
invariant-loop-i l = All (λ s. IsToldOf (mem_state s.disk) s.steps) l.sessions.items
