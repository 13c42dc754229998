-- What comes of a large input: its run, and the lines that tell of it.
use Rattle.std.specs.Prelude.{◌≡◌, ◌≤◌, ◌⊎◌, ℕ, List, ◌++◌, take, Result, Ok, IfOk}
use Rattle.dav_io.specs.Counts.{Rose}
use Rattle.dav_io.specs.Outside.{Stream}
use Rattle.dav_io.specs.Told.{Both}
use Rattle.dav_io.specs.declared.failure.NoMemory.{NoMemory}
use Rattle.dav_bench.specs.Running.{Ran}
use Rattle.dav_bench.specs.Totals.{lines, totals}

-- A front of these bytes was written, and all of them at status 0.
abbrev pub FrontWritten : List ℕ → Result ℕ NoMemory → List ℕ → List ℕ → Type 0
FrontWritten bytes result old new =
    (count : ℕ) × (new ≡ old ++ take count bytes) × (result ≡ Ok 0 → new ≡ old ++ bytes)

-- These bytes were written, or a front of them, with the status that says so.
pub record Reports (bytes : List ℕ) (old : Stream) (result : Result ℕ NoMemory) (new : Stream) : Type 0 where
  pub counts : old.faults ≤ new.faults
  pub status : IfOk result (λ status. (status ≡ 0) ⊎ ((status ≡ 4) × Rose old.faults new.faults))
  pub told : Both old.bytes new.bytes (FrontWritten bytes result)

-- What is written tells of a run that was made wherever there is a status: what its answers count up to, and the
-- listings of its disk. At want of memory it is a front of such lines, with some number of listings.
pub record Benches (m : ℕ) (old : Stream) (result : Result ℕ NoMemory) (new : Stream) : Type 0 where
  pub listings : ℕ
  pub ran : IfOk result (λ status. Ran m (totals m listings))
  pub reports : Reports (lines (totals m listings)) old result new
