use Rattle.std.proofs.lemmas.Bool.{both_ways}
use Rattle.dav_page.proofs.SizeForms.{number_by, number_not}
use Rattle.dav_page.proofs.forms.is_number.Goals as goal

pub returns-then-are_digits : goal.returns-then-are_digits
returns-then-are_digits c =
    number_by c.args.text.now c.in-Some.whole.now c.in-Some.fraction.now c.are_digits.result c.is_fraction.result c.in-Some.ensures.some
    c.are_digits.ensures c.is_fraction.ensures c.if-are_digits.true

pub returns-else-are_digits : goal.returns-else-are_digits
returns-else-are_digits c = (
  λ e. absurd (both_ways c.are_digits.result c.if-are_digits.false e),
  λ n. absurd (number_not c.args.text.now c.in-Some.whole.now c.in-Some.fraction.now c.are_digits.result c.in-Some.ensures.some c.are_digits.ensures
      c.if-are_digits.false n),
)
