use Rattle.std.proofs.Common.{ℕ, List, Bool, length, drop, sym, ap, ◌∙◌, false, arith}
use Rattle.std.proofs.lemmas.Iterator.Splits.{YieldsList-from_lines}
use Rattle.std.proofs.lemmas.Iterator.Consumers.{YieldsList-turn, YieldsList-end}
use Rattle.std.proofs.lemmas.List.{at_drop_all, length_push}
use Rattle.std.specs.List.{list_any}
use Rattle.std.specs.Option.{option_map_or}
use Rattle.std.specs.Str.Lines.{lines}
use Rattle.dav_report.specs.Lines.{value_of}
use Rattle.dav_matching.specs.Texts.{compares}
use Rattle.dav_matching.specs.declared.texts.Comparison.{Comparison}
use Rattle.dav_matching.proofs.Walking.{any_after, any_first}
use Rattle.dav_matching.proofs.cards.some_line_has.Goals as goal

abbrev fits : Comparison → List ℕ → List ℕ → Bool
fits comparison part line = option_map_or (compares comparison part) (value_of line) false

pub returns-then-line_has : goal.returns-then-line_has
returns-then-line_has c =
    let t = YieldsList-turn (YieldsList-from_lines c.args.text.now cc) c.loop-line.yielded _ c.loop-line.yielded_by _ _ c.in-Some.line c.in-Some.is c.next.ensures.steps in
    let here = ap (fits c.args.comparison c.args.part.now) (sym t.1) ∙ sym c.if-line_has.ensures in
    sym (c.loop-line.invariant ∙ any_first (fits c.args.comparison c.args.part.now) (lines c.args.text.now) (length c.loop-line.yielded) c.in-Some.line.now t.0 here)

pub loop-line-preserved : goal.loop-line-preserved
loop-line-preserved c =
    let t = YieldsList-turn (YieldsList-from_lines c.args.text.now cc) c.loop-line.yielded _ c.loop-line.yielded_by _ _ c.in-Some.line c.in-Some.is c.next.ensures.steps in
    let here = ap (fits c.args.comparison c.args.part.now) (sym t.1) ∙ sym c.if-line_has.ensures in
    c.loop-line.invariant ∙ any_after (fits c.args.comparison c.args.part.now) (lines c.args.text.now) (length c.loop-line.yielded) c.in-Some.line.now t.0 here
    ∙ ap (λ n. list_any (fits c.args.comparison c.args.part.now) (drop n (lines c.args.text.now))) (sym (length_push c.loop-line.yielded c.in-Some.line))

pub returns : goal.returns
returns c =
    let t = YieldsList-end (YieldsList-from_lines c.args.text.now cc) c.loop-line.yielded _ c.loop-line.yielded_by _ _ c.in-None.is c.next.ensures.steps in
    sym (c.loop-line.invariant ∙ at_drop_all (list_any (fits c.args.comparison c.args.part.now)) (lines c.args.text.now) (length c.loop-line.yielded) (omega (arith, t.1)))
