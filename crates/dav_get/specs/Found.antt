-- What pieces between commas ask for, one after another.
use Rattle.std.specs.Prelude.{◌==◌, ◌||◌, ◌++◌, ℕ, Bool, true, not, List, [], ◌∷◌, length, map, filter, Option, None, Some, if◌then◌else◌}
use Rattle.std.specs.List.{filter_map, list_any}
use Rattle.dav_core.specs.Blanks.{trimmed}
use Rattle.dav_model.specs.declared.ranges.Slice.{Slice}
use Rattle.dav_model.specs.declared.ranges.Judged.{Judged}
use Rattle.dav_model.specs.declared.ranges.Ranges.{Ranges}
use Rattle.dav_model.specs.declared.ranges.Ranges.TheVariants.{Whole}
use Rattle.dav_model.specs.Slices.{all_judged, is_everything, part_of, parts}

-- what the members among pieces come to
abbrev pub pieces_judged : ℕ → List (List ℕ) → Option (List Judged)
pieces_judged len pieces = all_judged len (filter (λ m. not (length m == 0)) (map trimmed pieces))

-- the answer, by whether there was a member, whether one asks for all of an empty file, and the slices of the others
abbrev pub ended : Bool → Bool → List Slice → Ranges
ended has_member everything slices = if everything || not has_member then Whole else parts slices

-- the answer where that was found so far, and these members follow
abbrev pub continued : Bool → Bool → List Slice → Option (List Judged) → Ranges
continued has_member everything slices None = Whole
continued has_member everything slices (Some []) = ended has_member everything slices
continued has_member everything slices (Some (one ∷ more)) =
    ended true (everything || list_any is_everything (one ∷ more)) (slices ++ filter_map part_of (one ∷ more))
