use Rattle.std.proofs.Common.{arith}
use Rattle.dav_wire.proofs.SizeReading.{digit_at, few_digits}
use Rattle.dav_wire.proofs.size_line.number_of.Goals as goal

pub overflow_mul-value : goal.overflow_mul-value
overflow_mul-value c =
    let room = few_digits c.loop-byte.value c.loop-byte.byte-index c.loop-byte.invariant.few (omega arith) in
    omega arith

pub overflow_add-value : goal.overflow_add-value
overflow_add-value c =
    let room = few_digits c.loop-byte.value c.loop-byte.byte-index c.loop-byte.invariant.few (omega arith) in
    let digit = digit_at c.args.digits.now c.loop-byte.byte-index (omega arith) c.loop-byte.invariant.left in
    let same = c.digit_of.ensures in
    omega arith
