use Rattle.std.proofs.Common.{ℕ, ◌<◌, IsSome}
use Rattle.dav_core.specs.World.{at_key}
use Rattle.dav_core.proofs.keys.free_key.Given as goal

-- the table has the keys so far
abbrev pub invariant-loop-key : goal.invariant-loop-key
invariant-loop-key g l = (key : ℕ) → key < l.key-counter → IsSome (at_key l.table key)
