use Rattle.std.proofs.Common.{◌≡◌, ◌≤◌, ◌^◌, true, sym, subst, take}
use Rattle.std.specs.Str.{all_ascii_digits}
use Rattle.std.proofs.Math.Nat.{mul-le-mul_right}
use Rattle.dav_calendar.proofs.Digits.{front_digits, front_below}
use Rattle.dav_calendar.proofs.durations.unit.Goals as goal

pub number-requires-clause-digits : goal.number-requires-clause-digits
number-requires-clause-digits c = subst (λ n. all_ascii_digits (take n c.args.text.now) ≡ true) (sym c.digits_in-place.ensures.value) (front_digits c.args.text.now)

pub returns-clause-small : goal.returns-clause-small
returns-clause-small c =
    let short : c.digits_in-place.result ≤ 9 = c.if-place-gt9.false in
    let most : c.number.result ≤ 10 ^ 9 = rw c.number.ensures (front_below c.args.text.now c.digits_in-place.result c.digits_in-place.ensures.value short) in
    mul-le-mul_right c.args.each most
