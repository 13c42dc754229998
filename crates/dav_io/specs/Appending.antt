-- What a call that writes some bytes does to a sink.
use Rattle.std.specs.Prelude.{◌≡◌, ◌<◌, ℕ, ◌≤◌, List, ◌++◌, length, take, Result, Ok, Err, IsErr}
use Rattle.dav_io.specs.declared.failure.Failed.{Failed}
use Rattle.dav_io.specs.Counts.{Rose}
use Rattle.dav_io.specs.Told.{Both}
use Rattle.dav_io.specs.Outside.{Stream}

-- All of the bytes were appended; where the sink failed, a front of them was, and not all.
abbrev pub Appended : List ℕ → Result (Unit {0}) Failed → List ℕ → List ℕ → Type 0
Appended bytes (Ok u) old new = new ≡ old ++ bytes
Appended bytes (Err e) old new = (n : ℕ) × (n < length bytes) × (new ≡ old ++ take n bytes)

-- The sink fails only where its count of faults rises.
pub record Appends (old : Stream) (bytes : List ℕ) (result : Result (Unit {0}) Failed) (new : Stream) : Type 0 where
  pub counts : old.faults ≤ new.faults
  pub failed : IsErr result → Rose old.faults new.faults
  pub told : Both old.bytes new.bytes (Appended bytes result)
