-- What is told of the large input: five lines with what was counted.
use Rattle.std.specs.Prelude.{◌*◌, ℕ, List, ◌++◌, codes, decimal, flat_map, map, sum}
use Rattle.dav_bench.specs.Tree.{length_of, upto}

-- the lengths of the files of eight directories, of which each has so many
abbrev pub lengths : ℕ → List ℕ
lengths m = flat_map (λ i. map (length_of i) (upto m)) (upto 8)

-- How many requests were made, and how many of them were answered 200; how many pieces came, and how many bytes in
-- them; and how many listings the disk was asked for.
pub record Totals : Type 0 where
  pub requests : ℕ
  pub ok : ℕ
  pub pieces : ℕ
  pub bytes : ℕ
  pub listings : ℕ

-- Each file is asked for twice, and comes whole in one piece.
abbrev pub totals : ℕ → ℕ → Totals
totals m listings =
    record { requests = 16 * m; ok = 16 * m; pieces = 16 * m; bytes = 2 * sum (lengths m); listings = listings }

abbrev pub line : List ℕ → ℕ → List ℕ
line name n = name ++ (codes " " ++ (decimal n ++ codes "\n"))

abbrev pub lines : Totals → List ℕ
lines t = line (codes "requests") t.requests ++ (line (codes "ok") t.ok ++ (line (codes "pieces") t.pieces
    ++ (line (codes "bytes") t.bytes ++ line (codes "listings") t.listings)))
