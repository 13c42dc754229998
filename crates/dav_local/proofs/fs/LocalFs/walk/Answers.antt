use Rattle.std.proofs.Common.{◌==◌, ◌∙◌, ap, length, refl}
use Rattle.dav_local.specs.Places.{place_of}
use Rattle.dav_local.proofs.Coming.{going_first, going_on, walk_forgotten, walk_none_above, walk_none_by, walk_over, walk_over_above, walk_refused}
use Rattle.dav_local.proofs.FromRoot.{spent_first, spent_on, walked_few, walked_over}
use Rattle.dav_local.proofs.fs.LocalFs.walk.Goals as goal

pub loop-name-init : goal.loop-name-init
loop-name-init g c = record {
  going = going_first _ _ _ _ c.as_slice-rest.ensures.plain (c.new-at.ensures ∙ c.new.ensures.items) c.as_slice-rest.ensures.value;
  spending = spent_first (place_of g.D.Disk.state g.R.Remember.state c.args.self.now) _ _ _ (c.new-at.ensures ∙ c.new.ensures.items) c.as_slice-rest.ensures.value;
  stays = (refl, refl, refl);
  loan = refl;
}

pub returns-in-Ok-None-clause-done : goal.returns-in-Ok-None-clause-done
returns-in-Ok-None-clause-done g c =
    walk_none_by _ _ _ _ _ _ c.in-Some.name.now c.in-Some.more.now c.in-Ok-None.field-0 _ c.loop-name.invariant.going c.in-Some.ensures.cases.0 c.in-Ok-None.ensures.done c.in-Ok-None.field-0-is c.below.ensures

pub returns-in-Err-clause-done : goal.returns-in-Err-clause-done
returns-in-Err-clause-done g c = walk_refused _ _ _ _ _ _ c.in-Some.name.now _ c.loop-name.invariant.going c.in-Err.ensures.done

pub loop-name-preserved : goal.loop-name-preserved
loop-name-preserved g c = record {
  going = going_on _ _ _ _ _ _ c.in-Some.name.now c.in-Some.more.now c.in-Ok-Some.next c.in-Ok-Some.field-0 c.loop-name.invariant.going c.in-Some.ensures.cases.0 c.in-Ok-Some.ensures.done (λ none. c.in-Ok-Some.ensures.first (c.is_empty.ensures ∙ ap (λ z. length z == 0) none)) c.in-Ok-Some.field-0-is;
  spending = spent_on (place_of g.D.Disk.state g.R.Remember.state c.args.self.now) (place_of g.D.Disk.state g.R.Remember.state c.loop-name.self) (place_of g.D.Disk.state g.R.Remember.state c.step_on.new.self) _ _ _ c.in-Some.name.now c.in-Some.more.now c.in-Ok-Some.next c.in-Ok-Some.field-0 c.loop-name.invariant.going.keeps.keeps c.loop-name.invariant.going.alike c.in-Some.ensures.cases.0 c.loop-name.invariant.spending c.in-Ok-Some.ensures.few c.in-Ok-Some.field-0-is c.in-Ok-Some.ensures.done.alike;
  stays = (
    c.step_on.ensures.stays.0 ∙ c.loop-name.invariant.stays.0,
    c.step_on.ensures.stays.1 ∙ c.loop-name.invariant.stays.1,
    c.step_on.ensures.stays.2 ∙ c.loop-name.invariant.stays.2,
  );
  loan = c.step_on.ensures.loan ∙ c.loop-name.invariant.loan;
}

pub returns-in-Ok-clause-done : goal.returns-in-Ok-clause-done
returns-in-Ok-clause-done g c = walk_over _ _ _ _ _ c.loop-name.rest.now c.loop-name.invariant.going c.in_default.ensures.cases c.in-Ok.ensures.done

pub returns-in-Err-remember-clause-done : goal.returns-in-Err-remember-clause-done
returns-in-Err-remember-clause-done g c = walk_forgotten _ _ _ _ _ c.loop-name.rest.now _ c.loop-name.invariant.going c.in-Err-remember.ensures.done

pub returns-in-Ok-None-clause-above : goal.returns-in-Ok-None-clause-above
returns-in-Ok-None-clause-above g c =
    walk_none_above (place_of g.D.Disk.state g.R.Remember.state c.args.self.now) _ (place_of g.D.Disk.state g.R.Remember.state c.step_on.new.self) _ _ _ c.in-Some.name.now c.in-Some.more.now c.in-Ok-None.field-0 _ c.loop-name.invariant.going c.in-Some.ensures.cases.0 c.in-Ok-None.ensures.done
    (λ none. c.in-Ok-None.ensures.first (c.is_empty.ensures ∙ ap (λ z. length z == 0) none)) c.in-Ok-None.field-0-is c.below.ensures

pub returns-in-Ok-clause-above : goal.returns-in-Ok-clause-above
returns-in-Ok-clause-above g c = walk_over_above (place_of g.D.Disk.state g.R.Remember.state c.args.self.now) _ (place_of g.D.Disk.state g.R.Remember.state c.remember.new.self) _ _ c.loop-name.rest.now c.loop-name.invariant.going c.in_default.ensures.cases c.in-Ok.ensures.done

pub returns-in-Ok-None-clause-most : goal.returns-in-Ok-None-clause-most
returns-in-Ok-None-clause-most g c = walked_few (place_of g.D.Disk.state g.R.Remember.state c.args.self.now) (place_of g.D.Disk.state g.R.Remember.state c.loop-name.self) (place_of g.D.Disk.state g.R.Remember.state c.step_on.new.self) _ _ _ c.in-Some.name.now c.in-Some.more.now c.loop-name.invariant.going.keeps.keeps c.loop-name.invariant.going.alike c.in-Some.ensures.cases.0 c.loop-name.invariant.spending c.in-Ok-None.ensures.few

pub returns-in-Err-clause-most : goal.returns-in-Err-clause-most
returns-in-Err-clause-most g c = walked_few (place_of g.D.Disk.state g.R.Remember.state c.args.self.now) (place_of g.D.Disk.state g.R.Remember.state c.loop-name.self) (place_of g.D.Disk.state g.R.Remember.state c.step_on.new.self) _ _ _ c.in-Some.name.now c.in-Some.more.now c.loop-name.invariant.going.keeps.keeps c.loop-name.invariant.going.alike c.in-Some.ensures.cases.0 c.loop-name.invariant.spending c.in-Err.ensures.few

pub returns-in-Ok-clause-most : goal.returns-in-Ok-clause-most
returns-in-Ok-clause-most g c = walked_over (place_of g.D.Disk.state g.R.Remember.state c.args.self.now) (place_of g.D.Disk.state g.R.Remember.state c.loop-name.self) (place_of g.D.Disk.state g.R.Remember.state c.remember.new.self) _ _ _ c.loop-name.invariant.spending c.in-Ok.ensures.disk

pub returns-in-Err-remember-clause-most : goal.returns-in-Err-remember-clause-most
returns-in-Err-remember-clause-most g c = walked_over (place_of g.D.Disk.state g.R.Remember.state c.args.self.now) (place_of g.D.Disk.state g.R.Remember.state c.loop-name.self) (place_of g.D.Disk.state g.R.Remember.state c.remember.new.self) _ _ _ c.loop-name.invariant.spending c.in-Err-remember.ensures.disk
