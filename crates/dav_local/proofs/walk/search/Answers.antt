use Rattle.std.proofs.Common.{◌≡◌, ◌∙◌, false, sym, ap}
use Rattle.std.specs.Str.{bytes_eq}
use Rattle.dav_model.specs.Folds.{fold_name}
use Rattle.dav_local.proofs.Seeking.{search_found, search_over, seeks_on, texts_same}
use Rattle.dav_local.proofs.Counted.{passed_over, passing_on}
use Rattle.dav_local.proofs.walk.search.Goals as goal

pub returns-in-Ok-None-clause-done : goal.returns-in-Ok-None-clause-done
returns-in-Ok-None-clause-done g c = search_over _ _ _ _ _ c.loop-name.invariant.0 (rw c.in-Ok-None.field-0-is at c.in-Ok-None.ensures.done) c.next_name.ensures.goes_on

pub returns-then-eq-clause-done : goal.returns-then-eq-clause-done
returns-then-eq-clause-done g c =
    search_found _ _ _ _ _ _ c.loop-name.invariant.0 (rw c.in-Ok-Some.field-0-is at c.in-Ok-Some.ensures.done) c.next_name.ensures.goes_on
    (sym c.in-Ok.ensures ∙ texts_same c.in-Ok.other c.args.folding.now (sym c.eq.ensures ∙ c.if-eq.true))

pub loop-name-preserved-else-eq : goal.loop-name-preserved-else-eq
loop-name-preserved-else-eq g c =
    let other : bytes_eq (fold_name c.in-Ok-Some.name) c.args.folding.now ≡ false = ap (λ x. bytes_eq x c.args.folding.now) (sym c.in-Ok.ensures) ∙ sym c.eq.ensures ∙ c.if-eq.false in
    (seeks_on _ _ _ _ _ _ c.loop-name.invariant.0 (rw c.in-Ok-Some.field-0-is at c.in-Ok-Some.ensures.done) c.next_name.ensures.goes_on other, c.next_name.ensures.loan ∙ c.loop-name.invariant.1, passing_on _ _ _ _ _ c.loop-name.invariant.2 (rw c.in-Ok-Some.field-0-is at c.in-Ok-Some.ensures.done))

pub loop-name-preserved : goal.loop-name-preserved
loop-name-preserved g c =
    let other : bytes_eq (fold_name c.in-Ok-Some.name) c.args.folding.now ≡ false = ap (λ x. bytes_eq x c.args.folding.now) (sym c.in-Ok.ensures) ∙ sym c.eq.ensures ∙ c.if-eq.false in
    (seeks_on _ _ _ _ _ _ c.loop-name.invariant.0 (rw c.in-Ok-Some.field-0-is at c.in-Ok-Some.ensures.done) c.next_name.ensures.goes_on other, c.next_name.ensures.loan ∙ c.loop-name.invariant.1, passing_on _ _ _ _ _ c.loop-name.invariant.2 (rw c.in-Ok-Some.field-0-is at c.in-Ok-Some.ensures.done))

pub returns-in-Ok-None-clause-few : goal.returns-in-Ok-None-clause-few
returns-in-Ok-None-clause-few g c = passed_over (g.D.Disk.state c.args.disk.now) _ _ _ _ c.loop-name.invariant.2 c.in-Ok-None.ensures.done

pub returns-then-eq-clause-few : goal.returns-then-eq-clause-few
returns-then-eq-clause-few g c = passed_over (g.D.Disk.state c.args.disk.now) _ _ _ _ c.loop-name.invariant.2 c.in-Ok-Some.ensures.done

pub returns-in-Err-clause-few : goal.returns-in-Err-clause-few
returns-in-Err-clause-few g c = passed_over (g.D.Disk.state c.args.disk.now) _ _ _ _ c.loop-name.invariant.2 c.in-Err.ensures.done

pub returns-in_default-clause-few : goal.returns-in_default-clause-few
returns-in_default-clause-few g c = passed_over (g.D.Disk.state c.args.disk.now) _ _ _ _ c.loop-name.invariant.2 c.in-Ok-Some.ensures.done
