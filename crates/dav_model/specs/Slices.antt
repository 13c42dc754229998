-- The parts of a file that the value of a field `range` asks for (RFC 9110, sections 14.1.1 and 14.1.2). All numbers
-- are unbounded.
use Rattle.std.specs.Prelude.{◌==◌, ◌&&◌, ◌+◌, ◌-◌, ◌<◌, ◌≤◌, ℕ, min, nat_le, nat_lt, Bool, true, false, not, List, [], ◌∷◌, length, take, drop, map, filter, codes, Option, None, Some, option_map, if◌then◌else◌}
use Rattle.std.specs.List.{filter_map, list_any, position, slice_split, AllByRecursion}
use Rattle.std.specs.Str.{all_ascii_digits, str_eq_ignore_ascii_case}
use Rattle.std.specs.Str.Parse.{digits_value}
use Rattle.dav_core.specs.Blanks.{trimmed}
use Rattle.dav_model.specs.declared.ranges.Slice.{Slice}
use Rattle.dav_model.specs.declared.ranges.Judged.{Judged}
use Rattle.dav_model.specs.declared.ranges.Judged.TheVariants.{Unmet, Part, Everything}
use Rattle.dav_model.specs.declared.ranges.Ranges.{Ranges}
use Rattle.dav_model.specs.declared.ranges.Ranges.TheVariants.{Whole, Unsatisfiable, Parts}

-- Step 1. A value begins with the unit, in any case. Another asks for nothing.
abbrev pub has_unit : List ℕ → Bool
has_unit value = str_eq_ignore_ascii_case (take 6 value) (codes "bytes=")

-- Step 2. Behind the unit stand members between commas, without the spaces and tabs around them. Empty ones are
-- dropped.
abbrev pub members : List ℕ → List (List ℕ)
members value = filter (λ m. not (length m == 0)) (map trimmed (slice_split (λ b. b == 44) (drop 6 value)))

-- Step 3. A number is one or more decimal digits.
abbrev pub number : List ℕ → Option ℕ
number digits = if not (length digits == 0) && all_ascii_digits digits then Some (digits_value 10 digits) else None

-- what a member asks for: the bytes from a place on, up to another where it is said; or so many at the end
pub data Asked : Type 0 where
  From : (first : ℕ) (last : Option ℕ) → Asked
  Back : (count : ℕ) → Asked

-- FIRST-, and FIRST-LAST where the last isn't below the first
abbrev pub up_to : ℕ → Option ℕ → Option Asked
up_to first None = None
up_to first (Some last) = if nat_le first last then Some (From first (Some last)) else None

-- The first place stands in front of the dash; behind it stands nothing, or the last.
abbrev pub asked_from : Option ℕ → List ℕ → Option Asked
asked_from None last = None
asked_from (Some first) [] = Some (From first None)
asked_from (Some first) (b ∷ bytes) = up_to first (number (b ∷ bytes))

-- A member is read by its first dash. In front of it stands nothing, or the first place.
abbrev pub asked_at : Option ℕ → List ℕ → Option Asked
asked_at None member = None
asked_at (Some dash) member =
    if dash == 0 then option_map (λ n. Back n) (number (drop 1 member))
    else asked_from (number (take dash member)) (drop (dash + 1) member)

abbrev pub asked : List ℕ → Option Asked
asked member = asked_at (position (λ b. b == 45) member) member

-- Step 4. What a member comes to in a file: nothing that is there, a slice of it, or all of a file that is empty.

-- one past the last byte that is asked for and there
abbrev pub end_of : ℕ → Option ℕ → ℕ
end_of len None = len
end_of len (Some last) = min (last + 1) len

abbrev pub judged : ℕ → Asked → Judged
judged len (From first last) =
    if nat_lt first len then Part (record { start = first; count = end_of len last - first }) else Unmet
judged len (Back count) = if count == 0 then Unmet else (if len == 0 then Everything
    else Part (record { start = len - count; count = min count len }))

-- Step 5. One member that can't be read is enough for a value that asks for nothing, whatever the others are.
abbrev pub with_one : Option Judged → Option (List Judged) → Option (List Judged)
with_one None all = None
with_one (Some one) all = option_map (λ more. one ∷ more) all

abbrev pub all_judged : ℕ → List (List ℕ) → Option (List Judged)
all_judged len [] = Some []
all_judged len (member ∷ more) = with_one (option_map (judged len) (asked member)) (all_judged len more)

-- Step 6. At least one member is there. An empty file of which the end is asked for is whole. Else the slices are the
-- parts; where there is none, the value can't be met.
abbrev pub is_everything : Judged → Bool
is_everything Unmet = false
is_everything (Part slice) = false
is_everything Everything = true

abbrev pub part_of : Judged → Option Slice
part_of Unmet = None
part_of (Part slice) = Some slice
part_of Everything = None

abbrev pub parts : List Slice → Ranges
parts [] = Unsatisfiable
parts (slice ∷ more) = Parts (slice ∷ more)

abbrev pub answer : Option (List Judged) → Ranges
answer None = Whole
answer (Some []) = Whole
answer (Some (one ∷ more)) = if list_any is_everything (one ∷ more) then Whole
    else parts (filter_map part_of (one ∷ more))

abbrev pub ranges_in : ℕ → List ℕ → Ranges
ranges_in len value = if has_unit value then answer (all_judged len (members value)) else Whole

-- what the value of the first field `range` asks of a file of this length
abbrev pub ranges : Option (List ℕ) → ℕ → Ranges
ranges None len = Whole
ranges (Some value) len = ranges_in len value

-- a slice that isn't empty and ends within the length
pub record IsWithin (len : ℕ) (slice : Slice) : Type 0 where
  pub some : 0 < slice.count
  pub ends : slice.start + slice.count ≤ len

-- every slice is one
abbrev pub AreWithin : ℕ → Ranges → Type 0
AreWithin len Whole = Unit {0}
AreWithin len Unsatisfiable = Unit {0}
AreWithin len (Parts slices) = AllByRecursion (IsWithin len) slices
