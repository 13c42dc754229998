-- Decimal digits, as std reads and writes them.
use Rattle.std.proofs.Common.{◌≡◌, ◌&&◌, ℕ, List, [], ◌∷◌, true, IsUtf8, refl, ap}
use Rattle.std.specs.Char.{is_ascii_digit}
use Rattle.std.specs.List.{list_all}
use Rattle.std.specs.Str.{all_ascii_digits}
use Rattle.std.specs.Str.Parse.{digits_value}
use Rattle.std.proofs.lemmas.Fmt.{IsAscii-from_digits}
use Rattle.std.proofs.lemmas.Str.{IsUtf8-from_ascii}
use Rattle.std.proofs.lemmas.Str.Parse.{IsNumeralModel, numerals_by_value, tells_all_ascii_digits}

-- what a test of each byte tells
pub all_are_digits : (ds : List ℕ) → list_all is_ascii_digit ds ≡ all_ascii_digits ds
all_are_digits [] = refl
all_are_digits (d ∷ ds) = ap (λ b. is_ascii_digit d && b) (all_are_digits ds)

abbrev pub AreDigits : List ℕ → Type 0
AreDigits ds = all_ascii_digits ds ≡ true

-- by it the lemmas of std on digits speak of such texts
pub own : IsNumeralModel AreDigits (digits_value 10)
own = numerals_by_value _ tells_all_ascii_digits

pub digits_text : (ds : List ℕ) → AreDigits ds → IsUtf8 ds
digits_text ds all = IsUtf8-from_ascii ds (IsAscii-from_digits ds (own.to ds all))
