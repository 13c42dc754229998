use Rattle.std.proofs.Common.{length, drop, sym, ap, ◌∙◌, arith}
use Rattle.std.proofs.lemmas.Iterator.Splits.{YieldsList-from_lines}
use Rattle.std.proofs.lemmas.Iterator.Consumers.{YieldsList-turn, YieldsList-end}
use Rattle.std.proofs.lemmas.List.{at_drop_all, length_push}
use Rattle.std.specs.Str.{trim}
use Rattle.std.specs.Str.Lines.{lines}
use Rattle.dav_report.specs.Lines.{first_some, calendar_uid_in}
use Rattle.dav_report.proofs.Found.{found_here, passed_by}
use Rattle.dav_report.proofs.content.extract_calendar_uid.Goals as goal

pub returns-in-Some-calendar_uid_of : goal.returns-in-Some-calendar_uid_of
returns-in-Some-calendar_uid_of c =
    let t = YieldsList-turn (YieldsList-from_lines c.args.content.now cc) c.loop-line.yielded _ c.loop-line.yielded_by _ _ c.in-Some.line c.in-Some.is c.next.ensures.steps in
    let here = ap (λ line. calendar_uid_in (trim line)) (sym t.1) ∙ ap calendar_uid_in (sym c.trim.ensures.trim) ∙ sym c.in-Some-calendar_uid_of.ensures in
    rw c.in_ok-copy-in-Some-calendar_uid_of.ensures (sym (c.loop-line.invariant ∙ found_here (λ line. calendar_uid_in (trim line)) (lines c.args.content.now) (length c.loop-line.yielded) c.in-Some.line.now c.in-Some-calendar_uid_of.uid.now t.0 here))

pub loop-line-preserved : goal.loop-line-preserved
loop-line-preserved c =
    let t = YieldsList-turn (YieldsList-from_lines c.args.content.now cc) c.loop-line.yielded _ c.loop-line.yielded_by _ _ c.in-Some.line c.in-Some.is c.next.ensures.steps in
    let here = ap (λ line. calendar_uid_in (trim line)) (sym t.1) ∙ ap calendar_uid_in (sym c.trim.ensures.trim) ∙ sym c.in-None-calendar_uid_of.ensures in
    c.loop-line.invariant ∙ passed_by (λ line. calendar_uid_in (trim line)) (lines c.args.content.now) (length c.loop-line.yielded) c.in-Some.line.now t.0 here
    ∙ ap (λ n. first_some (λ line. calendar_uid_in (trim line)) (drop n (lines c.args.content.now))) (sym (length_push c.loop-line.yielded c.in-Some.line))

pub returns : goal.returns
returns c =
    let t = YieldsList-end (YieldsList-from_lines c.args.content.now cc) c.loop-line.yielded _ c.loop-line.yielded_by _ _ c.in-None.is c.next.ensures.steps in
    sym (c.loop-line.invariant ∙ at_drop_all (first_some (λ line. calendar_uid_in (trim line))) (lines c.args.content.now) (length c.loop-line.yielded) (omega (arith, t.1)))
