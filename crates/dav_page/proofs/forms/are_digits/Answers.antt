use Rattle.std.proofs.Common.{◌≡◌, ◌==◌, ◌&&◌, ℕ, Bool, false, length, nat_lt, arith}
use Rattle.std.proofs.lemmas.Bool.Decides.{nat_tests}
use Rattle.dav_page.proofs.forms.are_digits.Goals as goal

of_some : (n : ℕ) (e all more : Bool) → e ≡ (n == 0) → e ≡ false → all ≡ more → all ≡ (nat_lt 0 n && more)
of_some n e all more is some same = grind (arith, nat_tests)

pub returns-then-not-is_empty : goal.returns-then-not-is_empty
returns-then-not-is_empty c =
    of_some (length c.args.text.now) c.is_empty.result c.has_only_digits.result _ c.is_empty.ensures c.if-not-is_empty.true c.has_only_digits.ensures
