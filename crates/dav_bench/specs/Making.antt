-- How far the disk of the large input is made.
use Rattle.std.specs.Prelude.{◌≡◌, ◌<◌, ◌≤◌, ◌+◌, ◌*◌, ◌⊎◌, ℕ, None}
use Rattle.dav_core.specs.World.{World, bytes_of}
use Rattle.dav_disk.specs.Rows.{at_second}
use Rattle.dav_bench.specs.Tree.{file_row, length_of, letters, rows_so_far}

-- So many directories stand there. Of those so many have all their files, and the next has so many.
pub record IsSoFar (n m i j : ℕ) (w : World) : Type 0 where
  pub tree : w.tree ≡ rows_so_far n m i j
  pub below : (k l : ℕ) → k < i → l < m → bytes_of w (file_row m k l).number ≡ letters (length_of k l)
  pub here : (l : ℕ) → l < j → bytes_of w (file_row m i l).number ≡ letters (length_of i l)
  -- no other number is a file's
  pub others : (number : ℕ) → (number < 10) ⊎ (10 + (i * m + j) ≤ number) → w.files number ≡ None
  pub numbers : w.greatest < 10 + (i * m + j)
  pub latest : w.latest ≡ at_second 1
