use Rattle.std.proofs.Common.{◌≡◌, ℕ, List, ◌++◌, length, Ok}
use Rattle.dav_io.specs.Appending.{Appends}
use Rattle.dav_io.proofs.writing.put_all.Given as goal

-- what was written and what is left are the bytes
abbrev pub invariant-loop-rest : goal.invariant-loop-rest
invariant-loop-rest g l = (done : List ℕ) × (done ++ l.rest ≡ l.bytes) × Appends (g.K.Sink.stream l.initial.sink) done (Ok tt) (g.K.Sink.stream l.sink)

abbrev pub decreases-loop-rest : goal.decreases-loop-rest
decreases-loop-rest g l = length l.rest
