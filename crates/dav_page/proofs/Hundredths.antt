-- A quotient in hundredths, divided before it is multiplied.
use Rattle.std.proofs.Common.{◌≡◌, ◌<◌, ◌+◌, ◌*◌, ◌/◌, ◌%◌, ℕ, sym, ap, ◌∙◌, arith}
use Rattle.std.proofs.Math.Nat.{mul-add-div, div-add-mod}
use Rattle.dav_page.specs.Sizes.{hundredths}

regroup : (n d whole rest : ℕ) → d * whole + rest ≡ n → 2 * 100 * n + d ≡ (2 * d) * (whole * 100) + (rest * 200 + d)
regroup n d whole rest e = omega arith

-- Divided first, the quotient in hundredths is the same.
pub divided_first : (n d : ℕ) → 0 < d → n / d * 100 + (n % d * 200 + d) / (2 * d) ≡ hundredths n d
divided_first n d h =
    let some : 0 < 2 * d = omega arith in
    sym (ap (λ m. m / (2 * d)) (regroup n d (n / d) (n % d) (div-add-mod n d)) ∙ mul-add-div some (n / d * 100) (n % d * 200 + d))
