-- Bytes that a source puts behind those that a buffer holds.
use Rattle.std.specs.Prelude.{◌≡◌, ◌≤◌, ◌+◌, ℕ, List, [], ◌++◌, length, take, drop, Result, Ok, Err, IsErr, IfOk}
use Rattle.dav_io.specs.Counts.{Rose, one_more}
use Rattle.dav_io.specs.Told.{Both}
use Rattle.dav_io.specs.Outside.{Stream}
use Rattle.dav_io.specs.declared.failure.Failed.{Failed}

-- the n bytes from the place on were the first that were left; none only where nothing was left
abbrev pub TakenAt : List ℕ → ℕ → Result ℕ Failed → List ℕ → List ℕ → Type 0
TakenAt buffer at (Ok n) before after = (before ≡ take n (drop at buffer) ++ after) × (n ≡ 0 → before ≡ [])
TakenAt buffer at (Err e) before after = after ≡ before

-- One call of a source. At most so many bytes were taken; those before the place are as they were.
pub record TakesAt (old : Stream) (buffer : List ℕ) (at most : ℕ) (result : Result ℕ Failed) (filled : List ℕ)
    (new : Stream) : Type 0 where
  pub asked : new.asked ≡ one_more old.asked
  pub counts : old.faults ≤ new.faults
  pub failed : IsErr result → Rose old.faults new.faults
  pub within : IfOk result (λ n. at + n ≤ length buffer)
  pub few : IfOk result (λ n. n ≤ most)
  pub len : length filled ≡ length buffer
  pub front : take at filled ≡ take at buffer
  pub told : Both old.bytes new.bytes (TakenAt filled at result)
