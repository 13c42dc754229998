-- When a component is, as far as a range of time asks (a profile of RFC 4791 section
-- 9.9). Recurrence is not looked at.
use Rattle.std.specs.Prelude.{◌==◌, ◌&&◌, ℕ, Bool, true, not, List, [], ◌∷◌, codes, Option, None, Some, option_and_then, if◌then◌else◌, ℤ, pos, ◌+ℤ◌, int_lt, int_le}
use Rattle.std.specs.Str.{bytes_eq}
use Rattle.dav_calendar.specs.Moments.{duration, moment}
use Rattle.dav_calendar.specs.Trees.{Told}
use Rattle.dav_calendar.specs.declared.moments.Moment.{Moment}
use Rattle.dav_calendar.specs.declared.property.Property.{Property}

-- the value of the first property of this name
abbrev pub first_value : List ℕ → List Property → Option (List ℕ)
first_value name [] = None
first_value name (p ∷ more) = if bytes_eq p.name name then Some p.value else first_value name more

abbrev pub first_moment : List ℕ → List Property → Option Moment
first_moment name properties = option_and_then moment (first_value name properties)

-- A missing start is before every moment, a missing end after every moment.
abbrev pub starts_before : Option ℤ → ℤ → Bool
starts_before None at = true
starts_before (Some start) at = int_lt start at

abbrev pub starts_by : Option ℤ → ℤ → Bool
starts_by None at = true
starts_by (Some start) at = int_le start at

abbrev pub ends_after : Option ℤ → ℤ → Bool
ends_after None at = true
ends_after (Some end) at = int_lt at end

-- where the range has to start for what lasts from a moment to its end, or as long as it says
abbrev pub starts_lasting : Option ℤ → Moment → Option ℕ → Bool
starts_lasting start from (Some n) =
    if n == 0 then starts_by start from.seconds else starts_before start (from.seconds +ℤ pos n)
starts_lasting start from None =
    if from.is_day then starts_before start (from.seconds +ℤ pos 86400) else starts_by start from.seconds

abbrev pub starts_for : Option ℤ → Moment → Option Moment → Option ℕ → Bool
starts_for start from (Some until) seconds = starts_before start until.seconds
starts_for start from None seconds = starts_lasting start from seconds

-- Without a readable beginning an event overlaps no range, and another component every range.
abbrev pub overlaps_from : Bool → Option ℤ → Option ℤ → Option Moment → Option Moment → Option ℕ → Bool
overlaps_from is_event start end None until seconds = not is_event
overlaps_from is_event start end (Some from) until seconds =
    starts_for start from until seconds && ends_after end from.seconds

-- the seconds of the first duration
abbrev pub lasts : List Property → Option ℕ
lasts properties = option_and_then duration (first_value (codes "DURATION") properties)

-- what a component says decides, and not the components in it
abbrev pub overlaps : Told → Option ℤ → Option ℤ → Bool
overlaps told start end =
    overlaps_from (bytes_eq told.name (codes "VEVENT")) start end (first_moment (codes "DTSTART") told.properties)
    (first_moment (codes "DTEND") told.properties) (lasts told.properties)

-- a moment is in a range that doesn't start after it, and ends after it
abbrev pub is_within : ℤ → Option ℤ → Option ℤ → Bool
is_within at start end = starts_by start at && ends_after end at
