use Rattle.std.proofs.Common.{◌≤◌, ◌<◌, ◌^◌, ◌*◌, ◌+◌, suc, ℕ, arith}
use Rattle.std.proofs.Math.Nat.{pow-suc, pow-le-pow_right}
use Rattle.dav_wire.proofs.announcing.number.Goals as goal

-- below 10 ^ 19 there is room for a byte more
few_digits : (value at : ℕ) → value < 10 ^ at → at < 19 → value * 10 + 256 < 2 ^ 64
few_digits value at few short =
    let most : 10 ^ suc at ≤ 10 ^ 19 = pow-le-pow_right {n = 10} (omega arith) {i = suc at} {j = 19} (omega arith) in
    let next = pow-suc 10 at in
    omega arith

pub overflow_mul-value : goal.overflow_mul-value
overflow_mul-value c =
    let room = few_digits c.loop-byte.value c.loop-byte.byte-index c.loop-byte.invariant.few (omega arith) in
    omega arith

pub overflow_add-value : goal.overflow_add-value
overflow_add-value c =
    let room = few_digits c.loop-byte.value c.loop-byte.byte-index c.loop-byte.invariant.few (omega arith) in
    omega arith
