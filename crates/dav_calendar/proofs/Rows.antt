-- Worked rows: lines, components, durations, overlap.
use Rattle.std.proofs.Common.{◌≡◌, ◌∷◌, ◌++◌, [], ℤ, pos, Bool, true, false, Option, None, Some, codes, refl}
use Rattle.dav_calendar.specs.Moments.{duration, within_day, is_real}
use Rattle.dav_calendar.specs.Overlaps.{overlaps_from}
use Rattle.dav_calendar.specs.Reading.{components, name_of, unfolded, value_of}
use Rattle.dav_calendar.specs.Trees.{bare, and_component}

folds : unfolded (codes "SUMMARY:New " ++ 13 ∷ 10 ∷ codes " Year" ++ 10 ∷ []) ≡ [] ∷ codes "SUMMARY:New Year" ∷ []
folds = refl

quoted : value_of (codes "X;P=" ++ 34 ∷ codes "a:b" ++ 34 ∷ codes ":c:d") ≡ Some (codes "c:d")
quoted = refl

unquoted_never : value_of (codes "X;P=" ++ 34 ∷ codes "a:b") ≡ None
unquoted_never = refl

named : name_of (codes "dtstart;VALUE=DATE:20240229") ≡ codes "DTSTART"
named = refl

nested : components (codes "BEGIN: a" ++ 10 ∷ codes "x:1" ++ 10 ∷ codes "END:A") ≡ Some (and_component (record { name = codes "A"; properties = record { name = codes "X"; value = codes "1" } ∷ [] }) bare bare)
nested = refl

crossed : components (codes "BEGIN:A" ++ 10 ∷ codes "END:B" ++ 10 ∷ []) ≡ None
crossed = refl

left_open : components (codes "BEGIN:A") ≡ None
left_open = refl

nothing : components [] ≡ Some bare
nothing = refl

an_hour : duration (codes "PT1H") ≡ Some 3600
an_hour = refl

mixed : duration (codes "+P1DT1S") ≡ Some 86401
mixed = refl

a_bare_letter : duration (codes "P1DT") ≡ None
a_bare_letter = refl

weeks_alone : duration (codes "P1W1D") ≡ None
weeks_alone = refl

ten_digits : duration (codes "P1234567890D") ≡ None
ten_digits = refl

leap_second : within_day 12 0 60 ≡ Some 43259
leap_second = refl

leap_day : is_real 2024 2 29 ≡ true
leap_day = refl

no_leap_day : is_real 1900 2 29 ≡ false
no_leap_day = refl

-- an hour from 1000 on
abbrev hour : Option ℤ → Option ℤ → Bool
hour start end = overlaps_from true start end (Some (record { seconds = pos 1000; is_day = false })) (Some (record { seconds = pos 4600; is_day = false })) None

at_its_end : hour (Some (pos 4600)) None ≡ false
at_its_end = refl

before_its_end : hour (Some (pos 4599)) None ≡ true
before_its_end = refl

at_its_start : hour None (Some (pos 1000)) ≡ false
at_its_start = refl

no_start : overlaps_from true None None None None None ≡ false
no_start = refl
