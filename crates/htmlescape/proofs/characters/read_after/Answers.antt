use Rattle.std.proofs.Common.{◌≡◌, arith, sym, ◌∙◌, ap, take}
use Rattle.htmlescape.proofs.Utf8.{after_zero, after_ended, after_spelled, after_not, width_le}
use Rattle.htmlescape.proofs.characters.read_after.Goals as goal

pub returns-then-width-eq0 : goal.returns-then-width-eq0
returns-then-width-eq0 g c = after_zero _ _ (sym c.width_of-width.ensures ∙ c.if-width-eq0.true)

pub returns-in-Ok-None : goal.returns-in-Ok-None
returns-in-Ok-None g c =
    let i = c.loop-at.invariant in
    let most = width_le c.args.first in
    let w = c.width_of-width.ensures in
    after_ended _ _ _ _ _ _ i.counts (omega arith) (omega arith) (omega arith) i.told (rw c.in-Ok-None.field-0-is at c.in-Ok-None.ensures)

pub returns-in-Some : goal.returns-in-Some
returns-in-Some g c =
    let i = c.loop-at.invariant in
    let at_end : c.loop-at.at ≡ c.width_of-width.result = omega arith in
    after_spelled _ _ _ _ _ _ i.counts c.in-Some.ensures.scalar (ap (λ n. take n c.loop-at.bytes) at_end ∙ c.in-Some.ensures.spelled) i.told

pub returns-in-None : goal.returns-in-None
returns-in-None g c =
    let i = c.loop-at.invariant in
    let most = width_le c.args.first in
    let at_end : c.loop-at.at ≡ c.width_of-width.result = omega arith in
    after_not _ _ _ _ _ i.counts (omega arith) (omega arith) (sym c.width_of-width.ensures ∙ sym at_end) i.first
    (λ d more s e. c.in-None.ensures.spelled d more s (ap (λ n. take n c.loop-at.bytes) (sym at_end) ∙ e)) i.told
