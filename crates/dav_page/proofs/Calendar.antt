-- Years from 1970 on, and days since then.
use Rattle.std.proofs.Common.{rules, ◌≡◌, ◌+◌, ℕ, ℤ, pos, negsuc, ◌+ℤ◌, ◌≤ℤ◌, arith}
use Rattle.jiff_core.specs.Calendar.{IsCivilDate, days_from_civil}
use Rattle.jiff_core.proofs.CalendarLemmas.{day_count-epoch, day_count-lt_year, days_from_civil-day_count}
use Rattle.jiff_core.proofs.SignedLemmas.{signed_arith}

-- A day from 1970 on has no year below 0.
pub year_from_0 : (y : ℤ) (m d day : ℕ) → IsCivilDate y m d → days_from_civil y m d ≡ pos day → pos 0 ≤ℤ y
year_from_0 (pos year) m d day civil counts = omega (arith, signed_arith)
year_from_0 (negsuc n) m d day civil counts =
    absurd (omega (arith, signed_arith, counts, day_count-epoch, days_from_civil-day_count (negsuc n) m d, day_count-lt_year (negsuc n) m d (pos 1970) 1 1 civil (omega arith) (search rules)))

-- the day number, without the days before it
pub counted : (z : ℤ) (day : ℕ) → z +ℤ pos 4371587 ≡ pos (day + 4371587) → z ≡ pos day
counted z day e = omega (arith, signed_arith)
