-- What is shown of a time and of a size has the form that a reader takes.
use Rattle.std.proofs.Common.{◌≡◌, ◌≤◌, ◌<◌, ◌+◌, ◌/◌, ◌%◌, ◌^◌, ◌==◌, ◌&&◌, ◌||◌, ℕ, pos, Bool, true, false, cond, List, [], ◌∷◌, ◌++◌, length, codes, Option, None, Some, refl, ap₂, arith, ℤ, nat_lt, nat_le, if◌then◌else◌}
use Rattle.std.specs.Char.{is_digit, digit_value}
use Rattle.std.specs.Fmt.{decimal}
use Rattle.std.specs.List.{filter, last_or, list_all}
use Rattle.std.specs.Str.Parse.{AllDigits}
use Rattle.std.proofs.lemmas.Bool.{and_parts}
use Rattle.std.proofs.lemmas.Bool.Decides.{nat_tests}
use Rattle.std.proofs.lemmas.Fmt.{decimal_is_IsNumeral, decimal_digit}
use Rattle.jiff_core.proofs.SignedLemmas.{signed_arith}
use Rattle.jiff_core.specs.Calendar.{days_in_month, is_leap_year}
use Rattle.htmlescape.specs.Grammar.{are_digits}
use Rattle.dav_page.specs.Pages.{fits, is_date, IsAmount, is_fraction, is_unit}
use Rattle.dav_page.specs.Sizes.{Scale, scales, scale_of, or_bytes, fraction, hundredths, shown_size}
use Rattle.dav_page.specs.Listed.{IsMinute}

digit : (n : ℕ) → n < 10 → fits 48 (48 + n) ≡ true
digit n h = grind (arith, nat_tests)

-- the digits of a number below 10000
pairs : (n : ℕ) → n < 100 → (fits 48 (48 + n / 10) ≡ true) × (fits 48 (48 + n % 10) ≡ true)
pairs n h = (digit (n / 10) (omega arith), digit (n % 10) (omega arith))

days_below : (y : ℤ) (m : ℕ) → days_in_month y m < 100
days_below y m = two (m == 2) (is_leap_year y) ((m == 4) || (m == 6) || (m == 9) || (m == 11))
  where
    two : (a b c : Bool) → (if a then (if b then 29 else 28) else (if c then 30 else 31)) < 100
    two true true c = omega arith
    two true false c = omega arith
    two false b true = omega arith
    two false b false = omega arith

-- a minute has the form of a date
pub minute_fits : (secs : ℕ) (text : List ℕ) → IsMinute secs text → is_date text ≡ true
minute_fits secs text m =
    let year : m.year ≤ 9999 = omega (arith, signed_arith, m.civil.0.1) in
    let month : m.month < 100 = let h : m.month ≤ 12 = m.civil.1.1 in omega arith in
    let day : m.day < 100 = let h : m.day ≤ days_in_month (pos m.year) m.month = m.civil.2.1 in let b = days_below (pos m.year) m.month in omega arith in
    let a = pairs (m.year / 100) (omega arith) in
    let b = pairs (m.year % 100) (omega arith) in
    let c = pairs m.month month in
    let d = pairs m.day day in
    let e = pairs (secs % 86400 / 3600) (omega arith) in
    let f = pairs (secs % 3600 / 60) (omega arith) in
    rw (m.spells, a.0, a.1, b.0, b.1, c.0, c.1, d.0, d.1, e.0, e.1, f.0, f.1) refl

all_digits : (text : List ℕ) → AllDigits 10 text → list_all (λ c. is_digit c 10) text ≡ true
all_digits [] h = refl
all_digits (c ∷ text) (h, more) = ap₂ (λ x y. x && y) (below (digit_value c) h) (all_digits text more)
  where
    below : (n : ℕ) → n < 10 → nat_lt n 10 ≡ true
    below n h = grind (arith, nat_tests)

-- a number in decimal is digits
pub decimal_digits : (n : ℕ) → n < 2 ^ 64 → are_digits 10 (decimal n) ≡ true
decimal_digits n h = let p = (decimal_is_IsNumeral n h).0 in ap₂ (λ x y. x && y) (some (length (decimal n)) p.0) (all_digits (decimal n) p.1)
  where
    some : (k : ℕ) → 0 < k → nat_lt 0 k ≡ true
    some k h = grind (arith, nat_tests)

-- hundredths behind a point are a fraction
fraction_is : (h : ℕ) → h < 100 → is_fraction (fraction h) ≡ true
fraction_is h small = by_zero (h == 0) (h % 10 == 0)
  where
    whole : are_digits 10 (decimal (h / 10)) ≡ true
    whole = decimal_digits (h / 10) (omega arith)

    last : are_digits 10 (decimal (h % 10)) ≡ true
    last = decimal_digits (h % 10) (omega arith)

    one : decimal (h / 10) ≡ (48 + h / 10) ∷ []
    one = decimal_digit (h / 10) (omega arith)

    two : decimal (h % 10) ≡ (48 + h % 10) ∷ []
    two = decimal_digit (h % 10) (omega arith)

    d : is_digit (48 + h / 10) 10 ≡ true
    d = digit (h / 10) (omega arith)

    e : is_digit (48 + h % 10) 10 ≡ true
    e = digit (h % 10) (omega arith)

    by_zero : (a b : Bool) → is_fraction (cond a [] (codes "." ++ cond b (decimal (h / 10)) (decimal (h / 10) ++ decimal (h % 10)))) ≡ true
    by_zero true b = refl
    by_zero false true = rw (one, d) refl
    by_zero false false = rw (one, two, d, e) refl

units : list_all (λ s. is_unit s.called) scales ≡ true
units = refl

-- the unit of a size is one of the six
unit_is : (size : ℕ) → is_unit (scale_of size).called ≡ true
unit_is size = last_is (filter (λ s. nat_le s.bytes size && nat_lt size (2 ^ 60)) scales) None (kept scales units) refl
  where
    kept : (all : List Scale) → list_all (λ s. is_unit s.called) all ≡ true
        → list_all (λ s. is_unit s.called) (filter (λ s. nat_le s.bytes size && nat_lt size (2 ^ 60)) all) ≡ true
    kept [] e = refl
    kept (s ∷ all) e = let p = and_parts (is_unit s.called) (list_all (λ t. is_unit t.called) all) e in
        keeps (nat_le s.bytes size && nat_lt size (2 ^ 60)) s (filter (λ t. nat_le t.bytes size && nat_lt size (2 ^ 60)) all) p.0 (kept all p.1)
      where
        keeps : (b : Bool) (t : Scale) (rest : List Scale) → is_unit t.called ≡ true → list_all (λ u. is_unit u.called) rest ≡ true
            → list_all (λ u. is_unit u.called) (cond b (t ∷ rest) rest) ≡ true
        keeps true t rest e f = ap₂ (λ x y. x && y) e f
        keeps false t rest e f = f

    last_is : (all : List Scale) (o : Option Scale) → list_all (λ s. is_unit s.called) all ≡ true → is_unit (or_bytes o).called ≡ true
        → is_unit (or_bytes (last_or o all)).called ≡ true
    last_is [] o e f = f
    last_is (s ∷ all) o e f = let p = and_parts (is_unit s.called) (list_all (λ t. is_unit t.called) all) e in last_is all (Some s) p.1 p.0

-- What is shown of a size has the form that a reader takes.
pub size_fits : (size : ℕ) → hundredths size (scale_of size).bytes / 100 < 2 ^ 64 → IsAmount (shown_size size)
size_fits size small = record {
  whole = decimal (hundredths size (scale_of size).bytes / 100);
  fraction = fraction (hundredths size (scale_of size).bytes % 100);
  unit = (scale_of size).called;
  spells = refl;
  digits = decimal_digits (hundredths size (scale_of size).bytes / 100) small;
  point = fraction_is (hundredths size (scale_of size).bytes % 100) (omega arith);
  named = unit_is size;
}
