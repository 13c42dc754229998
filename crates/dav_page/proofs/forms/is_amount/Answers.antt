use Rattle.std.proofs.lemmas.Bool.{both_ways}
use Rattle.dav_page.proofs.SizeForms.{amount_by, amount_not}
use Rattle.dav_page.proofs.forms.is_amount.Goals as goal

pub returns-then-is_number : goal.returns-then-is_number
returns-then-is_number c =
    amount_by c.args.text.now c.in-Some.number.now c.in-Some.rest.now c.in-Some-expect.unit.now c.is_number.result c.is_unit.result
    c.in-Some.ensures.some
    c.in-Some-expect.ensures.some c.is_number.ensures c.is_unit.ensures c.if-is_number.true

pub returns-else-is_number : goal.returns-else-is_number
returns-else-is_number c = (
  λ e. absurd (both_ways c.is_number.result c.if-is_number.false e),
  λ a. absurd (amount_not c.args.text.now c.in-Some.number.now c.in-Some.rest.now c.in-Some-expect.unit.now c.is_number.result c.in-Some.ensures.some
      c.in-Some-expect.ensures.some c.is_number.ensures c.if-is_number.false a),
)
