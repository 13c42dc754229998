-- Texts that are kept with what folding made of them.
use Rattle.std.specs.Prelude.{◌≡◌, ◌<◌, ℕ, List, length, slice_index_or}
use Rattle.dav_matching.specs.Texts.{folded}
use Rattle.dav_matching.specs.declared.fold.Fold.{Fold}
use Rattle.dav_matching.specs.declared.folds.Folds.{Folds}

-- what folding makes of a text stands at a place
abbrev pub IsKeptAt : ℕ → List ℕ → Folds → Type 0
IsKeptAt place text folds =
    (place < length folds.kept.items) × ((d : Fold) → (slice_index_or folds.kept.items place d).folded ≡ folded text)
