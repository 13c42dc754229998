-- Numbers of few digits.
use Rattle.std.proofs.Common.{◌≡◌, ◌<◌, ◌≤◌, ℕ, List, length, true, Err, arith}
use Rattle.std.specs.Str.{all_ascii_digits}
use Rattle.std.specs.Str.Parse.{ParsesUnsigned}
use Rattle.std.proofs.lemmas.Str.Parse.{digits_value_short, parse_digits}
use Rattle.dav_io.proofs.Digits.{own}

-- so few digits fit
pub not_refused : {E : Type 0} (ds : List ℕ) (e : E) → all_ascii_digits ds ≡ true → 0 < length ds → length ds ≤ 19 → ParsesUnsigned 64 10 ds (Err e) → ⊥
not_refused ds e all some few refused = parse_digits own 64 ds (Err e) refused all (some, omega (arith, digits_value_short own ds 19 all few))
