-- What was given to a sink of some bytes, and what is held of them still.
use Rattle.std.specs.Prelude.{◌≡◌, ◌≤◌, ℕ, List, [], ◌++◌, Result, Ok, Err, IsErr}
use Rattle.dav_io.specs.Counts.{Rose}
use Rattle.dav_io.specs.Told.{Both}
use Rattle.dav_io.specs.Outside.{Stream}
use Rattle.dav_io.specs.declared.failure.Failed.{Failed}

-- A front of the bytes was added, and these are left of them.
abbrev pub Adds : List ℕ → List ℕ → List ℕ → List ℕ → Type 0
Adds bytes left old new = (sent : List ℕ) × (new ≡ old ++ sent) × (sent ++ left ≡ bytes)

-- a front of the bytes was added
abbrev pub AddsFront : List ℕ → List ℕ → List ℕ → Type 0
AddsFront bytes old new = (left : List ℕ) × Adds bytes left old new

-- What was held and then these bytes were sent, or are held still; where the sink failed, a front of them was sent.
abbrev pub Pushed : List ℕ → List ℕ → Result Unit Failed → List ℕ → List ℕ → List ℕ → Type 0
Pushed held bytes (Ok x) later old new = Adds (held ++ bytes) later old new
Pushed held bytes (Err e) later old new = AddsFront (held ++ bytes) old new

-- Bytes were given to a buffer in front of a sink. Where the sink failed, nothing is held any more.
pub record Pushes (old : Stream) (held bytes : List ℕ) (result : Result Unit Failed) (later : List ℕ)
    (new : Stream) : Type 0 where
  pub counts : old.faults ≤ new.faults
  pub failed : IsErr result → Rose old.faults new.faults
  pub dropped : IsErr result → later ≡ []
  pub told : Both old.bytes new.bytes (Pushed held bytes result later)

-- Of these bytes a front was given to a sink, and the others are left.
pub record Sent (old new : Stream) (bytes left : List ℕ) : Type 0 where
  pub counts : old.faults ≤ new.faults
  pub told : Both old.bytes new.bytes (Adds bytes left)

-- These bytes were given to a sink.
pub record SentAll (old new : Stream) (bytes : List ℕ) : Type 0 where
  pub counts : old.faults ≤ new.faults
  pub told : Both old.bytes new.bytes (λ a b. b ≡ a ++ bytes)

-- No more than a front of these bytes was given to a sink.
pub record SentFront (old new : Stream) (bytes : List ℕ) : Type 0 where
  pub counts : old.faults ≤ new.faults
  pub told : Both old.bytes new.bytes (AddsFront bytes)
