-- Moments and durations (RFC 5545 sections 3.3.4 to 3.3.6). All are taken as UTC, in seconds since 1970-01-01.
use Rattle.std.specs.Prelude.{◌==◌, ◌&&◌, ◌||◌, ◌+◌, ◌*◌, ℕ, Bool, true, false, List, length, take, drop, nat_le, nat_lt, min, codes, slice_index, Option, None, Some, option_map, if◌then◌else◌, ℤ, pos, ◌+ℤ◌, ◌*ℤ◌}
use Rattle.std.specs.Char.{is_ascii_digit}
use Rattle.std.specs.List.{prefix_len}
use Rattle.std.specs.Str.{all_ascii_digits, bytes_eq}
use Rattle.std.specs.Str.Parse.{digits_value}
use Rattle.dav_calendar.specs.declared.moments.Moment.{Moment}
use Rattle.jiff_core.specs.Calendar.{days_from_civil, days_in_month}

-- decimal digits alone
abbrev pub value_in : List ℕ → ℕ
value_in digits = digits_value 10 digits

-- ---- a day: four digits of a year, two of a month, two of a day

abbrev pub is_real : ℕ → ℕ → ℕ → Bool
is_real year month day =
    (nat_le 1 month && nat_le month 12) && (nat_le 1 day && nat_le day (days_in_month (pos year) month))

-- the midnight of a day that is real
abbrev pub midnight : ℕ → ℕ → ℕ → Option ℤ
midnight year month day =
    if is_real year month day then Some (days_from_civil (pos year) month day *ℤ pos 86400) else None

abbrev pub day : List ℕ → Option ℤ
day text =
    if (length text == 8) && all_ascii_digits text
    then midnight (value_in (take 4 text)) (value_in (take 2 (drop 4 text))) (value_in (drop 6 text)) else None

-- ---- a time: T, two digits each of hours, minutes and seconds, and maybe Z. Second 60 counts as 59

abbrev pub is_time : ℕ → ℕ → ℕ → Bool
is_time hour minute second = nat_le hour 23 && (nat_le minute 59 && nat_le second 60)

abbrev pub within_day : ℕ → ℕ → ℕ → Option ℕ
within_day hour minute second =
    if is_time hour minute second then Some (hour * 3600 + minute * 60 + min second 59) else None

-- the six digits
abbrev pub clock : List ℕ → Option ℕ
clock digits =
    if (length digits == 6) && all_ascii_digits digits
    then within_day (value_in (take 2 digits)) (value_in (take 2 (drop 2 digits))) (value_in (drop 4 digits)) else None

abbrev pub without_zone : List ℕ → List ℕ
without_zone text = if (length text == 8) && (slice_index text 7 == 90) then take 7 text else text

abbrev pub behind_letter : List ℕ → Option ℕ
behind_letter text = if bytes_eq (take 1 text) (codes "T") then clock (drop 1 text) else None

abbrev pub time : List ℕ → Option ℕ
time text = behind_letter (without_zone text)

-- ---- a moment is a day, or a day and a time

abbrev pub at_time : Option ℤ → Option ℕ → Option Moment
at_time None within = None
at_time (Some start) None = None
at_time (Some start) (Some within) = Some (record { seconds = start +ℤ pos within; is_day = false })

abbrev pub moment : List ℕ → Option Moment
moment text =
    if nat_le (length text) 8 then option_map (λ s. record { seconds = s; is_day = true }) (day text)
    else at_time (day (take 8 text)) (time (drop 8 text))

-- ---- a duration: a plus or nothing, P, and weeks, or days and behind a T hours, minutes and seconds

-- what stands at the front: nothing of this unit, or its seconds
pub record Taken : Type 0 where
  pub seconds : ℕ
  pub some : Bool
  pub rest : List ℕ

-- a number of 1 to 9 digits before its letter
abbrev pub taken_at : ℕ → ℕ → List ℕ → Option Taken
taken_at place each text =
    if nat_le 1 place && nat_le place 9
    then Some (record { seconds = value_in (take place text) * each; some = true; rest = drop (place + 1) text })
    else None

abbrev pub taken_where : Bool → ℕ → ℕ → List ℕ → Option Taken
taken_where true place each text = taken_at place each text
taken_where false place each text = Some (record { seconds = 0; some = false; rest = text })

-- how many digits stand at the front, and whether the letter stands behind them
abbrev pub places : List ℕ → ℕ
places text = prefix_len is_ascii_digit text

abbrev pub stands : ℕ → List ℕ → Bool
stands letter text = nat_lt (places text) (length text) && (slice_index text (places text) == letter)

abbrev pub unit : ℕ → ℕ → List ℕ → Option Taken
unit letter each text = taken_where (stands letter text) (places text) each text

-- one unit behind what was taken
abbrev pub both_taken : Taken → Taken → Taken
both_taken t u = record { seconds = t.seconds + u.seconds; some = t.some || u.some; rest = u.rest }

abbrev pub then_unit : ℕ → ℕ → Option Taken → Option Taken
then_unit letter each None = None
then_unit letter each (Some t) = option_map (both_taken t) (unit letter each t.rest)

abbrev pub nothing_of : List ℕ → Option Taken
nothing_of text = Some (record { seconds = 0; some = false; rest = text })

-- hours, minutes and seconds, at least one of them
abbrev pub clock_units : List ℕ → Option Taken
clock_units text = then_unit 83 1 (then_unit 77 60 (then_unit 72 3600 (nothing_of text)))

-- something was taken, and nothing is left
abbrev pub whole : Option Taken → Option ℕ
whole None = None
whole (Some t) = if t.some && (length t.rest == 0) then Some t.seconds else None

-- behind the days: nothing, or a T and a clock
abbrev pub behind_days : Option Taken → Option ℕ
behind_days None = None
behind_days (Some t) =
    if bytes_eq (take 1 t.rest) (codes "T") then option_map (λ n. t.seconds + n) (whole (clock_units (drop 1 t.rest)))
    else whole (Some t)

-- weeks alone, or days and a clock
abbrev pub behind_weeks : List ℕ → Option Taken → Option ℕ
behind_weeks text None = None
behind_weeks text (Some t) = if t.some then whole (Some t) else behind_days (unit 68 86400 text)

abbrev pub without_plus : List ℕ → List ℕ
without_plus text = if bytes_eq (take 1 text) (codes "+") then drop 1 text else text

abbrev pub period : List ℕ → Option ℕ
period text =
    if bytes_eq (take 1 text) (codes "P") then behind_weeks (drop 1 text) (unit 87 604800 (drop 1 text)) else None

abbrev pub duration : List ℕ → Option ℕ
duration text = period (without_plus text)
