-- The lengths to which reads are limited.
use Rattle.std.specs.Prelude.{◌≡◌, ◌≤◌, ℕ, List, [], ◌∷◌, length, min, Some, Result, Ok, Err}
use Rattle.dav_core.specs.declared.handle.DiskError.{DiskError}
use Rattle.dav_core.specs.World.{World, OpenFile}
use Rattle.dav_core.specs.Disk.{rest_of}

-- A read that isn't refused uses up a length, and gives no more bytes than it.
abbrev pub UsesLength : List ℕ → Result ℕ DiskError → List ℕ → Type 0
UsesLength [] (Ok n) new = new ≡ []
UsesLength (len ∷ lens) (Ok n) new = (n ≤ len) × (new ≡ lens)
UsesLength lens (Err e) new = new ≡ lens

-- A read that isn't refused gives all bytes that stand at the file's place, that fit and that may be given.
abbrev pub GivesMost : ℕ → World → ℕ → List ℕ → Result ℕ DiskError → Type 0
GivesMost most w h buffer (Ok n) =
    (o : OpenFile) × (w.opens h ≡ Some o) × (n ≡ min most (min (length buffer) (length (rest_of w o))))
GivesMost most w h buffer (Err e) = Unit {0}

-- the most bytes that the next read gives
abbrev pub first_of : List ℕ → ℕ
first_of [] = 18446744073709551615
first_of (len ∷ lens) = len
