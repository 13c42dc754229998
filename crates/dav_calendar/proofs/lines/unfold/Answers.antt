use Rattle.std.proofs.Common.{rules, length, string_bytes, sym, ◌∙◌, arith}
use Rattle.std.proofs.lemmas.Iterator.Splits.{YieldsList-from_lines}
use Rattle.std.proofs.lemmas.Iterator.Consumers.{YieldsList-turn, YieldsList-end}
use Rattle.std.proofs.lemmas.List.{length_push}
use Rattle.std.specs.Str.Lines.{lines}
use Rattle.dav_calendar.proofs.Folding.{line_goes, line_begins, lines_end}
use Rattle.dav_calendar.proofs.lines.unfold.Goals as goal

pub loop-line-preserved-in-Continue-1 : goal.loop-line-preserved-in-Continue-1
loop-line-preserved-in-Continue-1 c =
    let t = YieldsList-turn (YieldsList-from_lines c.args.text.now cc) c.loop-line.yielded _ c.loop-line.yielded_by _ _ c.in-Some.line c.in-Some.is c.next.ensures.steps in
    line_goes (lines c.args.text.now) c.loop-line.done.items _ (length c.loop-line.yielded) _ (string_bytes c.loop-line.current) c.in-Some.line.now _ t.0 t.1 (sym c.goes_on.ensures ∙ c.if-goes_on.true) c.loop-line.invariant
    (search rules) (length_push c.loop-line.yielded c.in-Some.line)

pub loop-line-preserved : goal.loop-line-preserved
loop-line-preserved c =
    let t = YieldsList-turn (YieldsList-from_lines c.args.text.now cc) c.loop-line.yielded _ c.loop-line.yielded_by _ _ c.in-Some.line c.in-Some.is c.next.ensures.steps in
    line_begins (lines c.args.text.now) c.loop-line.done.items _ _ (length c.loop-line.yielded) _ (string_bytes c.loop-line.current) c.in-Some.line.now _ t.0 t.1 (sym c.goes_on.ensures ∙ c.if-goes_on.false) c.loop-line.invariant
    (search rules) (search rules) (length_push c.loop-line.yielded c.in-Some.line)

pub returns : goal.returns
returns c =
    let t = YieldsList-end (YieldsList-from_lines c.args.text.now cc) c.loop-line.yielded _ c.loop-line.yielded_by _ _ c.in-None.is c.next.ensures.steps in
    lines_end (lines c.args.text.now) c.loop-line.done.items _ (length c.loop-line.yielded) (string_bytes c.loop-line.current) _ (omega (arith, t.1)) c.loop-line.invariant (search rules)
