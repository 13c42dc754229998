-- How answers are counted.
use Rattle.std.specs.Prelude.{◌≤◌, ◌+◌, ◌*◌, ◌==◌, ℕ, min, cond, List, [], ◌∷◌, length}
use Rattle.dav_io.specs.Counts.{greatest, one_more}
use Rattle.dav_model.specs.declared.answer.Answer.{Answer}
use Rattle.dav_model.specs.declared.answer.Answer.TheVariants.{Reply, Piece, End, Broken, Done}
use Rattle.dav_bench.specs.Totals.{Totals}
use Rattle.dav_bench.specs.declared.counting.Counts.{Counts}

-- a reply is a request that was answered, and each piece has its bytes
abbrev pub counted : Counts → Answer → Counts
counted c (Reply status fields body) =
    record c { requests = one_more c.requests; ok = cond (status == 200) (one_more c.ok) c.ok }
counted c (Piece bytes) = record c { pieces = one_more c.pieces; bytes = min (c.bytes + length bytes) greatest }
counted c End = c
counted c Broken = c
counted c Done = c

abbrev pub all_counted : Counts → List Answer → Counts
all_counted c [] = c
all_counted c (answer ∷ answers) = all_counted (counted c answer) answers

-- nothing was counted yet
abbrev pub nothing_counted : Counts
nothing_counted = record { requests = 0; ok = 0; pieces = 0; bytes = 0 }

-- so many files more that came whole, with so many bytes
abbrev pub added : ℕ → ℕ → Counts → Counts
added files bytes c =
    record { requests = c.requests + files; ok = c.ok + files; pieces = c.pieces + files; bytes = c.bytes + bytes }

-- so many files more can be counted
pub record HasPlace (files : ℕ) (c : Counts) : Type 0 where
  pub requests : c.requests + files ≤ 6400
  pub ok : c.ok + files ≤ 6400
  pub pieces : c.pieces + files ≤ 6400
  pub bytes : c.bytes + 480 * files ≤ 3072000

-- what is told of counts
abbrev pub totals_of : Counts → ℕ → Totals
totals_of c listings =
    record { requests = c.requests; ok = c.ok; pieces = c.pieces; bytes = c.bytes; listings = listings }
