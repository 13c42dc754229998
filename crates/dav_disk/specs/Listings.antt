-- The open listings of a disk in memory.
use Rattle.std.specs.Prelude.{◌≡◌, ◌<◌, ◌^◌, ℕ, List, [], ◌∷◌, drop, length, Option, None, Some}
use Rattle.std.specs.Option.{option_map}
use Rattle.std.specs.Ordering.{nat_cmp}
use Rattle.std.specs.Cmp.Lexicographic.{slice_cmp}
use Rattle.std.specs.List.Sorted.{IsPermutation, IsSorted}
use Rattle.std.specs.BTreeMap.{BTreeMap}
use Rattle.std.specs.Arc.{arc_value}
use Rattle.dav_core.specs.Path.{Names}
use Rattle.dav_core.specs.World.{put, at_key}
use Rattle.dav_disk.specs.declared.listing.Listing.{Listing}

-- the names that are still to come
abbrev pub names_left : Listing → Names
names_left l = drop l.given (arc_value l.names).items

-- the names that a lister has to come
abbrev pub listing_at : BTreeMap ℕ Listing → ℕ → Option Names
listing_at listings l = option_map names_left (at_key listings l)

-- names in order of their bytes
abbrev pub AreSorted : Names → Type 0
AreSorted names = IsSorted (slice_cmp nat_cmp) names

-- All of these names, in order of their bytes. They are fewer than 2^60.
pub record IsInOrder (all names : Names) : Type 0 where
  pub each : IsPermutation all names
  pub sorted : AreSorted names
  pub few : length names < 2 ^ 60

-- The first of the names to come is taken. There is none where none is left.
abbrev pub TakesName : ℕ → Option (List ℕ) → (ℕ → Option Names) → (ℕ → Option Names) → Type 0
TakesName l None old new = (old l ≡ Some []) × (new ≡ old)
TakesName l (Some name) old new = (rest : Names) × (old l ≡ Some (name ∷ rest)) × (new ≡ put l (Some rest) old)
