use Rattle.std.proofs.Common.{◌∙◌, length, eqb-true, sym, ap, arith}
use Rattle.dav_serve.proofs.NumbersAreSaid.{empty_says_none, plus_says_none, zeros_say_none, read_says, unread_says_none}
use Rattle.dav_serve.proofs.words.number_said.Goals as goal

pub returns-then-is_empty-clause-said : goal.returns-then-is_empty-clause-said
returns-then-is_empty-clause-said c =
    empty_says_none c.args.most c.args.word.now (omega (arith, c.ranges.most)) (ap length (sym c.as_bytes-bytes.ensures.value) ∙ eqb-true _ 0 (sym c.is_empty.ensures ∙ c.if-is_empty.true))

pub returns-then-bytes-eq43-clause-said : goal.returns-then-bytes-eq43-clause-said
returns-then-bytes-eq43-clause-said c = plus_says_none c.args.most c.args.word.now (omega (arith, c.ranges.most)) (rw c.as_bytes-bytes.ensures.value at c.if-bytes-eq43.true)

pub returns-then-bytes-gt1-clause-said : goal.returns-then-bytes-gt1-clause-said
returns-then-bytes-gt1-clause-said c = zeros_say_none c.args.most c.args.word.now (omega (arith, c.ranges.most)) (rw c.as_bytes-bytes.ensures.value at c.if-bytes-eq48.true) (rw c.as_bytes-bytes.ensures.value at c.if-bytes-gt1.true)

pub returns-in-Ok-clause-said : goal.returns-in-Ok-clause-said
returns-in-Ok-clause-said c = read_says c.args.most c.args.word.now _ (rw c.as_bytes-bytes.ensures.value at c.if-bytes-eq43.false) (rw c.as_bytes-bytes.ensures.value at c.else-bytes-eq48.either) c.in-Ok.ensures.value.0 c.if-number-most.true

pub returns-in_default-2-clause-said : goal.returns-in_default-2-clause-said
returns-in_default-2-clause-said c = unread_says_none c.args.most c.args.word.now (omega (arith, c.ranges.most)) (rw c.as_bytes-bytes.ensures.value at c.if-bytes-eq43.false) c.in_default.ensures.value.0
