-- A number of seconds as std reads it.
use Rattle.std.proofs.Common.{◌≡◌, ℕ, ◌<◌, Bool, true, false, ◌&&◌, cond, ltb, List, length, Some, None, Result, Ok, Err, refl, ap, ◌∙◌, arith}
use Rattle.std.specs.Str.{all_ascii_digits}
use Rattle.std.specs.Str.Parse.{ParsesUnsigned, digits_value, without_leading_plus}
use Rattle.std.specs.Result.{result_ok}
use Rattle.std.proofs.lemmas.Bool.Decides.{nat_tests}
use Rattle.dav_put.specs.Words.{seconds_said}
use Rattle.dav_io.proofs.Digits.{own}

passed : (n v : ℕ) (b : Bool) → 0 < n → b ≡ true → v < 4294967296 → Some v ≡ cond (ltb 0 n && b && ltb v 4294967296) (Some v) None
passed n v b some all small = grind (arith, nat_tests)

not_passed : (b : Bool) (v : ℕ) → (b ≡ true → ⊥) → None ≡ cond b (Some v) None
not_passed true v none = absurd (none refl)
not_passed false v none = refl

refused : (n v : ℕ) (b : Bool) → (0 < n → b ≡ true → v < 4294967296 → ⊥) → None ≡ cond (ltb 0 n && b && ltb v 4294967296) (Some v) None
refused n v b none =
    not_passed (ltb 0 n && b && ltb v 4294967296) v (λ all. none (grind (arith, nat_tests)) (grind (arith, nat_tests)) (grind (arith, nat_tests)))

pub seconds_read : {E : Type 0} (t : List ℕ) (r : Result ℕ E) → ParsesUnsigned 32 10 t r → result_ok r ≡ seconds_said t
seconds_read t (Ok x) h =
    ap Some h.1 ∙ passed (length (without_leading_plus t)) (digits_value 10 (without_leading_plus t)) (all_ascii_digits (without_leading_plus t)) h.0.0.0 (own.from (without_leading_plus t) h.0.0.1) (omega (arith, h.0.1))
seconds_read t (Err e) h =
    refused (length (without_leading_plus t)) (digits_value 10 (without_leading_plus t)) (all_ascii_digits (without_leading_plus t)) (λ some all small. h ((some, own.to (without_leading_plus t) all), omega (arith, small)))
