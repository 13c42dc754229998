use Rattle.std.proofs.Common.{rules, refl, sym, ap, ◌∙◌, ◌≡◌, length}
use Rattle.dav_calendar.specs.Reading.{after_line}
use Rattle.dav_calendar.specs.Open.{read_of}
use Rattle.dav_calendar.proofs.Walking.{line_read, line_refused, lines_read, live_none, live_some}
use Rattle.dav_calendar.proofs.reading.read_components.Goals as goal

pub loop-line-init : goal.loop-line-init
loop-line-init c = rw (c.as_slice-line-items.ensures.value, c.in_ok-lines.ensures, c.empty.ensures, c.new.ensures.items) refl

pub returns-then-not-branch : goal.returns-then-not-branch
returns-then-not-branch c =
    let r = read_of c.loop-line.reading.tops c.loop-line.reading.live.items in
    line_refused c.as_slice-line-items.result.now c.loop-line.line-index _ _ r c.loop-line-test.true c.loop-line.invariant
    (ap (λ l. after_line l r) (sym (c.as_str.ensures.value ∙ c.line-item.is)) ∙ (rw c.if-not-branch.true at c.in_ok-take.ensures))

pub loop-line-preserved : goal.loop-line-preserved
loop-line-preserved c =
    let r = read_of c.loop-line.reading.tops c.loop-line.reading.live.items in
    line_read c.as_slice-line-items.result.now c.loop-line.line-index _ _ r _ c.loop-line-test.true c.loop-line.invariant
    (ap (λ l. after_line l r) (sym (c.as_str.ensures.value ∙ c.line-item.is)) ∙ (rw c.if-not-branch.false at c.in_ok-take.ensures))

pub returns-then-is_empty : goal.returns-then-is_empty
returns-then-is_empty c =
    let none : length c.loop-line.reading.live.items ≡ 0 = search rules in
    sym (lines_read c.as_slice-line-items.result.now c.loop-line.line-index _ (read_of c.loop-line.reading.tops c.loop-line.reading.live.items) c.loop-line-test.false c.loop-line.invariant
    ∙ live_none c.loop-line.reading.tops c.loop-line.reading.live.items none)

pub returns : goal.returns
returns c =
    let some : length c.loop-line.reading.live.items ≡ 0 → ⊥ = search rules in
    sym (lines_read c.as_slice-line-items.result.now c.loop-line.line-index _ (read_of c.loop-line.reading.tops c.loop-line.reading.live.items) c.loop-line-test.false c.loop-line.invariant
    ∙ live_some c.loop-line.reading.tops c.loop-line.reading.live.items some)
