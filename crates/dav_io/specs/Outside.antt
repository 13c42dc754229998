-- What the calls of a source and a sink do, as relations between the object before and after them.
use Rattle.std.specs.Prelude.{◌<◌, ◌≡◌, ℕ, ◌≤◌, List, [], ◌++◌, length, take, Option, Result, Ok, Err, IsErr, IfOk}
use Rattle.dav_io.specs.declared.failure.Failed.{Failed}
use Rattle.dav_io.specs.Counts.{Rose, one_more}
use Rattle.dav_io.specs.Told.{Both}

-- A stream as contracts see it: the bytes that are left or were written, where they are told, the count of faults, and
-- how often it was asked, which is told by each stream. Both counts stop at the greatest u64.
pub record Stream : Type 0 where
  pub bytes : Option (List ℕ)
  pub faults : ℕ
  pub asked : ℕ

-- The front of the bytes that were left went into the buffer. Nothing came only where nothing was left.
abbrev pub Taken : List ℕ → Result ℕ Failed → List ℕ → List ℕ → Type 0
Taken buffer (Ok n) old new = (old ≡ take n buffer ++ new) × (n ≡ 0 → old ≡ [])
Taken buffer (Err e) old new = new ≡ old

pub record Takes (old : Stream) (buffer : List ℕ) (result : Result ℕ Failed) (new : Stream) : Type 0 where
  pub asked : new.asked ≡ one_more old.asked
  pub counts : old.faults ≤ new.faults
  pub failed : IsErr result → Rose old.faults new.faults
  pub within : IfOk result (λ n. n ≤ length buffer)
  pub told : Both old.bytes new.bytes (Taken buffer result)

-- A front of the bytes offered was appended.
abbrev pub Written : List ℕ → Result ℕ Failed → List ℕ → List ℕ → Type 0
Written from (Ok n) old new = new ≡ old ++ take n from
Written from (Err e) old new = new ≡ old

pub record Puts (old : Stream) (from : List ℕ) (result : Result ℕ Failed) (new : Stream) : Type 0 where
  pub asked : new.asked ≡ one_more old.asked
  pub counts : old.faults ≤ new.faults
  pub failed : IsErr result → Rose old.faults new.faults
  pub some : IfOk result (λ n. 0 < n)
  pub within : IfOk result (λ n. n ≤ length from)
  pub told : Both old.bytes new.bytes (Written from result)
