-- The whole part of a size is no greater than the size.
use Rattle.std.proofs.Common.{◌≡◌, ◌≤◌, ◌<◌, ◌+◌, ◌*◌, ◌/◌, ◌^◌, ℕ, zero, suc, subst, sym, arith}
use Rattle.std.proofs.Math.Nat.{div-le_of_le-mul}
use Rattle.dav_page.specs.Pages.{IsAmount}
use Rattle.dav_page.specs.Sizes.{hundredths, scale_of, shown_size}
use Rattle.dav_page.proofs.Shown.{size_fits}

spread : (n e : ℕ) → 2 * 100 * n + suc e ≤ 2 * suc e * (100 * n + 1)
spread n e = omega arith

whole_least : (n d : ℕ) → 0 < d → hundredths n d / 100 ≤ n
whole_least n zero h = absurd (omega arith)
whole_least n (suc e) h = let most : hundredths n (suc e) ≤ 100 * n + 1 = div-le_of_le-mul (2 * suc e) (spread n e) in omega arith

-- What is shown of a size is an amount, whichever its unit is.
pub amount_shown : (size unit : ℕ) → (scale_of size).bytes ≡ unit → 0 < unit → size < 2 ^ 64 → IsAmount (shown_size size)
amount_shown size unit e some small =
    let whole : hundredths size unit / 100 ≤ size = whole_least size unit some in
    let below : hundredths size (scale_of size).bytes / 100 < 2 ^ 64 = subst (λ d. hundredths size d / 100 < 2 ^ 64) (sym e) (omega arith) in
    size_fits size below
