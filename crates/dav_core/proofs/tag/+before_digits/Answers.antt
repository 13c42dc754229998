use Rattle.std.proofs.Common.{sym, ◌∙◌, arith}
use Rattle.dav_core.proofs.Hex.{none_ends, other_digit, one_digit, found_more}
use Rattle.dav_core.proofs.tag.+before_digits.Goals as goal

pub returns-in_default : goal.returns-in_default
returns-in_default t c = none_ends _ _ (omega arith) (c.in_default.ensures.cases)

pub returns-then-last-digit : goal.returns-then-last-digit
returns-then-last-digit t c = other_digit _ _ _ _ (omega arith) c.in-Some.ensures.cases.0 (λ e. c.if-last-digit.true (e ∙ sym c.digit.ensures))

pub returns-then-number-lt16 : goal.returns-then-number-lt16
returns-then-number-lt16 t c = one_digit _ _ _ _ (omega arith) c.in-Some.ensures.cases.0 (c.if-last-digit.false ∙ c.digit.ensures)

pub returns : goal.returns
returns t c = found_more _ _ _ _ _ (omega arith) (omega arith) c.in-Some.ensures.cases.0 (c.if-last-digit.false ∙ c.digit.ensures) c.before_digits.ensures
