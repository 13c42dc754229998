-- What a large input plays: requests for its files in order, each with two polls of the body.
use Rattle.std.specs.Prelude.{◌≡◌, ◌+◌, ℕ, List, [], ◌∷◌, ◌++◌, flat_map, map, Result, Ok}
use Rattle.dav_model.specs.declared.step.Step.{Step}
use Rattle.dav_model.specs.declared.answer.Answer.{Answer}
use Rattle.dav_model.specs.Play.{PlayedOn, Stage}
use Rattle.dav_disk.specs.declared.sure_disk.SureDisk.{SureDisk}
use Rattle.dav_disk.specs.Sure.{listings_of, sure_state}
use Rattle.dav_bench.specs.declared.counting.Counts.{Counts}
use Rattle.dav_bench.specs.Asking.{AreStepsFor, IsReady}
use Rattle.dav_bench.specs.Counting.{all_counted, nothing_counted, totals_of}
use Rattle.dav_bench.specs.Totals.{Totals}
use Rattle.dav_bench.specs.Tree.{upto}

-- a file by the numbers of its directory and its own
pub record Place : Type 0 where
  pub dir : ℕ
  pub file : ℕ

abbrev pub place_of : ℕ → ℕ → Place
place_of i j = record { dir = i; file = j }

-- the first so many files of a directory, and all files of the first so many directories
abbrev pub places_of : ℕ → ℕ → List Place
places_of i n = map (place_of i) (upto n)

abbrev pub places_below : ℕ → ℕ → List Place
places_below m n = flat_map (λ i. places_of i m) (upto n)

-- each file of the large input once, and then each once more
abbrev pub both_rounds : ℕ → List Place
both_rounds m = places_below m 8 ++ places_below m 8

-- the steps for these files, where the first reply has this number
abbrev pub AreStepsForAll : List Place → ℕ → List Step → Type 0
AreStepsForAll [] body steps = steps ≡ []
AreStepsForAll (place ∷ places) body steps = (own : List Step) × (rest : List Step) × (steps ≡ own ++ rest)
    × AreStepsFor place.dir place.file body own × AreStepsForAll places (body + 1) rest

-- These files were asked for, from one stage to another, and their answers counted.
pub record AskedFor (places : List Place) (a b : Stage) (old new : Counts) : Type 0 where
  pub steps : List Step
  pub answers : List Answer
  pub are : AreStepsForAll places a.playing.replies steps
  pub played : PlayedOn a steps [] answers (Ok tt) b
  pub counted : new ≡ all_counted old answers

-- A player over the large input, on a disk that was never listed before, asked for each file twice. What is told are
-- the counts of its answers, and how often its disk was listed by the end.
pub record Ran (m : ℕ) (told : Totals) : Type 0 where
  pub first : SureDisk
  pub last : SureDisk
  pub a : Stage
  pub b : Stage
  pub counts : Counts
  pub ready : IsReady m a
  pub begins : a.at ≡ sure_state first
  pub fresh : listings_of first ≡ 0
  pub asked : AskedFor (both_rounds m) a b nothing_counted counts
  pub ends : b.at ≡ sure_state last
  pub are : told ≡ totals_of counts (listings_of last)
