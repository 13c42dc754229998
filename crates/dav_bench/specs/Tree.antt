-- The tree of the large input.
use Rattle.std.specs.Prelude.{◌≡◌, ◌<◌, ◌+◌, ◌*◌, ℕ, zero, suc, pos, List, [], ◌∷◌, ◌++◌, flat_map, map, replicate}
use Rattle.dav_core.specs.declared.tree.Row.{Row}
use Rattle.dav_core.specs.declared.tree.Kind.TheVariants.{Dir, File}
use Rattle.dav_core.specs.declared.time.FileTime.{FileTime}
use Rattle.dav_core.specs.World.{World, bytes_of}
use Rattle.dav_disk.specs.Memory.{HasRoom}
use Rattle.dav_bench.specs.Names.{dir_path, file_path}

-- the numbers below n, in order
unfoldable pub upto : ℕ → List ℕ
upto zero = []
upto (suc n) = upto n ++ n ∷ []

abbrev pub beginning : FileTime
beginning = record { secs = pos 0; nanos = 0 }

abbrev pub root_row : Row
root_row = record { path = []; kind = Dir; number = 1; time = beginning }

abbrev pub dir_row : ℕ → Row
dir_row i = record { path = dir_path i; kind = Dir; number = 2 + i; time = beginning }

-- file j of directory i, where each directory has m files
abbrev pub file_row : ℕ → ℕ → ℕ → Row
file_row m i j = record { path = file_path i j; kind = File; number = 10 + (i * m + j); time = beginning }

-- the first n directories, and the first n files of one
abbrev pub dirs : ℕ → List Row
dirs n = map dir_row (upto n)

abbrev pub files_of : ℕ → ℕ → ℕ → List Row
files_of m i n = map (file_row m i) (upto n)

-- all files of the first n directories
abbrev pub files_below : ℕ → ℕ → List Row
files_below m n = flat_map (λ i. files_of m i m) (upto n)

-- Directories first. Of those so many have all their files, and the next has so many.
abbrev pub rows_so_far : ℕ → ℕ → ℕ → ℕ → List Row
rows_so_far n m i j = root_row ∷ (dirs n ++ (files_below m i ++ files_of m i j))

abbrev pub rows : ℕ → List Row
rows m = root_row ∷ (dirs 8 ++ files_below m 8)

-- how many bytes file j of directory i has
abbrev pub length_of : ℕ → ℕ → ℕ
length_of i j = 10 * (i + 1) + j

abbrev pub letters : ℕ → List ℕ
letters n = replicate n 120

-- a world of this tree, in which each file has as many letters as it is to have
pub record IsBench (m : ℕ) (w : World) : Type 0 where
  pub tree : w.tree ≡ rows m
  pub bytes : (i j : ℕ) → i < 8 → j < m → bytes_of w (file_row m i j).number ≡ letters (length_of i j)
  -- no writing call would lack a number or a time
  pub room : HasRoom w
