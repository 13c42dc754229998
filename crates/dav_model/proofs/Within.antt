-- Every slice that a value asks for lies within the file.
use Rattle.std.proofs.Common.{◌≡◌, ◌==◌, ◌+◌, ◌-◌, ◌≤◌, ℕ, min, take, drop, List, [], ◌∷◌, Bool, true, false, cond, Option, None, Some, IfSome, Result, IfOk, Ok, Err, refl, subst, sym, arith, nat_le, nat_lt, leb-true, ltb-true, option_map}
use Rattle.std.specs.List.{AllByRecursion, filter_map, list_any, position}
use Rattle.std.proofs.lemmas.Bool.{eqb-false}
use Rattle.dav_model.specs.declared.ranges.Slice.{Slice}
use Rattle.dav_model.specs.declared.ranges.Judged.{Judged}
use Rattle.dav_model.specs.declared.ranges.Judged.TheVariants.{Unmet, Part, Everything}
use Rattle.dav_model.specs.declared.ranges.Ranges.{Ranges}
use Rattle.dav_model.specs.declared.ranges.Ranges.TheVariants.{Whole}
use Rattle.dav_model.specs.Slices.{Asked, From, Back, IsWithin, AreWithin, all_judged, answer, asked, asked_at, asked_from, has_unit, is_everything, judged, members, number, part_of, parts, ranges, up_to, with_one}

-- a last place isn't below the first
abbrev IsOrdered : Asked → Type 0
IsOrdered (From first None) = Unit {0}
IsOrdered (From first (Some last)) = first ≤ last
IsOrdered (Back count) = Unit {0}

option_ordered : (t : Bool) (a : Asked) → (t ≡ true → IsOrdered a) → IfSome (cond t (Some a) None) IsOrdered
option_ordered true a h = h refl
option_ordered false a h = tt

up_to_ordered : (first : ℕ) (last : Option ℕ) → IfSome (up_to first last) IsOrdered
up_to_ordered first None = tt
up_to_ordered first (Some last) = option_ordered (nat_le first last) (From first (Some last)) (leb-true first last)

from_ordered : (first : Option ℕ) (last : List ℕ) → IfSome (asked_from first last) IsOrdered
from_ordered None last = tt
from_ordered (Some first) [] = tt
from_ordered (Some first) (b ∷ bytes) = up_to_ordered first (number (b ∷ bytes))

back_ordered : (count : Option ℕ) → IfSome (option_map (λ n. Back n) count) IsOrdered
back_ordered None = tt
back_ordered (Some n) = tt

place_ordered : (place : Option ℕ) (member : List ℕ) → IfSome (asked_at place member) IsOrdered
place_ordered None member = tt
place_ordered (Some dash) member = by (dash == 0)
  where
    by : (t : Bool) → IfSome (cond t (option_map (λ n. Back n) (number (drop 1 member))) (asked_from (number (take dash member)) (drop (dash + 1) member))) IsOrdered
    by true = back_ordered (number (drop 1 member))
    by false = from_ordered (number (take dash member)) (drop (dash + 1) member)

-- what a member comes to is a slice within the file, where it is one
abbrev IsWell : ℕ → Judged → Type 0
IsWell len Unmet = Unit {0}
IsWell len (Part slice) = IsWithin len slice
IsWell len Everything = Unit {0}

well_where : (len : ℕ) (t : Bool) (slice : Slice) → (t ≡ true → IsWithin len slice) → IsWell len (cond t (Part slice) Unmet)
well_where len true slice within = within refl
well_where len false slice within = tt

back_well : (len count : ℕ) (none empty : Bool) → (count == 0) ≡ none → (len == 0) ≡ empty
    → IsWell len (cond none Unmet (cond empty Everything (Part (record { start = len - count; count = min count len }))))
back_well len count true empty e f = tt
back_well len count false true e f = tt
back_well len count false false e f =
    let some : count ≡ 0 → ⊥ = eqb-false count 0 e in
    let stands : len ≡ 0 → ⊥ = eqb-false len 0 f in
    record { some = omega (arith, some, stands); ends = omega (arith, some, stands) }

judged_well : (len : ℕ) (a : Asked) → IsOrdered a → IsWell len (judged len a)
judged_well len (From first None) o =
    well_where len (nat_lt first len) (record { start = first; count = len - first }) (λ e. let inside = ltb-true first len e in record { some = omega arith; ends = omega arith })
judged_well len (From first (Some last)) o =
    well_where len (nat_lt first len) (record { start = first; count = min (last + 1) len - first }) (λ e. let inside = ltb-true first len e in let order : first ≤ last = o in record { some = omega arith; ends = omega arith })
judged_well len (Back count) o = back_well len count (count == 0) (len == 0) refl refl

one_well : (len : ℕ) (a : Option Asked) (more : Option (List Judged)) → IfSome a IsOrdered → IfSome more (AllByRecursion (IsWell len))
    → IfSome (with_one (option_map (judged len) a) more) (AllByRecursion (IsWell len))
one_well len None more o rest = tt
one_well len (Some a) None o rest = tt
one_well len (Some a) (Some more) o rest = (judged_well len a o, rest)

all_well : (len : ℕ) (texts : List (List ℕ)) → IfSome (all_judged len texts) (AllByRecursion (IsWell len))
all_well len [] = tt
all_well len (m ∷ more) = one_well len (asked m) (all_judged len more) (place_ordered (position (λ b. b == 45) m) m) (all_well len more)

parts_well : (len : ℕ) (all : List Judged) → AllByRecursion (IsWell len) all → AllByRecursion (IsWithin len) (filter_map part_of all)
parts_well len [] each = tt
parts_well len (Unmet ∷ more) each = parts_well len more each.1
parts_well len (Part slice ∷ more) each = (each.0, parts_well len more each.1)
parts_well len (Everything ∷ more) each = parts_well len more each.1

parts_within : (len : ℕ) (slices : List Slice) → AllByRecursion (IsWithin len) slices → AreWithin len (parts slices)
parts_within len [] each = tt
parts_within len (slice ∷ more) each = each

answer_where : (len : ℕ) (t : Bool) (slices : List Slice) → AllByRecursion (IsWithin len) slices → AreWithin len (cond t Whole (parts slices))
answer_where len true slices each = tt
answer_where len false slices each = parts_within len slices each

answer_within : (len : ℕ) (all : Option (List Judged)) → IfSome all (AllByRecursion (IsWell len)) → AreWithin len (answer all)
answer_within len None each = tt
answer_within len (Some []) each = tt
answer_within len (Some (one ∷ more)) each = answer_where len (list_any is_everything (one ∷ more)) (filter_map part_of (one ∷ more)) (parts_well len (one ∷ more) each)

pub ranges_within : (value : Option (List ℕ)) (len : ℕ) → AreWithin len (ranges value len)
ranges_within None len = tt
ranges_within (Some value) len = by (has_unit value)
  where
    by : (t : Bool) → AreWithin len (cond t (answer (all_judged len (members value))) Whole)
    by true = answer_within len (all_judged len (members value)) (all_well len (members value))
    by false = tt

pub found_within : {E : Type 0} (value : Option (List ℕ)) (len : ℕ) (result : Result Ranges E) → IfOk result (λ found. found ≡ ranges value len) → IfOk result (AreWithin len)
found_within value len (Ok found) same = subst (AreWithin len) (sym same) (ranges_within value len)
found_within value len (Err e) same = tt
