use Rattle.std.proofs.Common.{◌++◌, ap, sym, ◌∙◌, subst, Ok, arith, inl, refl}
use Rattle.dav_local.specs.Places.{place_of}
use Rattle.dav_local.proofs.Found.{lost_above, member_above, member_walks, walks_lost}
use Rattle.dav_local.specs.Near.{FindsDir}
use Rattle.dav_local.proofs.NearFound.{sought_lost, sought_taken}
use Rattle.dav_local.proofs.FromRoot.{costs_few, costs_then, taken_most}
use Rattle.dav_local.proofs.fs.LocalFs.find_elsewhere.Goals as goal

pub returns-in-Ok-Some-clause-done : goal.returns-in-Ok-Some-clause-done
returns-in-Ok-Some-clause-done g c =
    member_walks _ _ _ _ _ c.in-Some.above.now c.in-Ok-Some.found c.in-Some.name.now c.in-Ok-Some.field-0 _ (sym c.as_slice.ensures.value ∙ c.in-Some.ensures.cases.0)
    (c.in-Ok.ensures.ok ∙ ap (λ z. z ++ c.in-Some.above.now) (c.new-root.ensures ∙ c.new.ensures.items)) c.in-Ok-Some.ensures.done c.in-Ok-Some.field-0-is c.take_member.ensures.done

pub returns-in-Ok-None-clause-done : goal.returns-in-Ok-None-clause-done
returns-in-Ok-None-clause-done g c = walks_lost _ _ _ _ _ c.in-Ok-None.field-0 _ c.in-Ok-None.ensures.done c.in-Ok-None.field-0-is c.walk.ensures.done

pub returns-in-Ok-Some-clause-above : goal.returns-in-Ok-Some-clause-above
returns-in-Ok-Some-clause-above g c =
    member_above (place_of g.D.Disk.state g.R.Remember.state c.args.self.now) _ (place_of g.D.Disk.state g.R.Remember.state c.take_member.new.self) _ _ c.in-Some.above.now c.in-Ok-Some.found c.in-Some.name.now c.in-Ok-Some.field-0 _ (sym c.as_slice.ensures.value ∙ c.in-Some.ensures.cases.0)
    (c.in-Ok.ensures.ok ∙ ap (λ z. z ++ c.in-Some.above.now) (c.new-root.ensures ∙ c.new.ensures.items)) c.in-Ok-Some.ensures.done c.in-Ok-Some.field-0-is c.take_member.ensures.done c.take_member.ensures.above

pub returns-in-Ok-None-clause-above : goal.returns-in-Ok-None-clause-above
returns-in-Ok-None-clause-above g c = lost_above _ _ (place_of g.D.Disk.state g.R.Remember.state c.walk.new.self) _ _ c.in-Ok-None.field-0 _ c.in-Ok-None.ensures.done c.walk.ensures.above

pub returns-in-Ok-Some-clause-near : goal.returns-in-Ok-Some-clause-near
returns-in-Ok-Some-clause-near g c = sought_taken (place_of g.D.Disk.state g.R.Remember.state c.args.self.now) (place_of g.D.Disk.state g.R.Remember.state c.find_parent.new.self) (place_of g.D.Disk.state g.R.Remember.state c.take_member.new.self) c.args.path.now c.in-Some.above.now c.in-Ok-Some.found c.in-Some.name.now c.in-Ok-Some.field-0 _ (sym c.as_slice.ensures.value ∙ c.in-Some.ensures.cases.0)
    (subst (λ d. FindsDir (place_of g.D.Disk.state g.R.Remember.state c.args.self.now) d (Ok c.in-Ok-Some.field-0) (place_of g.D.Disk.state g.R.Remember.state c.find_parent.new.self)) (c.in-Ok.ensures.ok ∙ ap (λ z. z ++ c.in-Some.above.now) (c.new-root.ensures ∙ c.new.ensures.items)) c.in-Ok-Some.ensures.near) c.in-Ok-Some.field-0-is c.in-Ok-Some.ensures.done.keeps c.take_member.ensures.done c.take_member.ensures.few

pub returns-in-Ok-None-clause-near : goal.returns-in-Ok-None-clause-near
returns-in-Ok-None-clause-near g c = sought_lost (place_of g.D.Disk.state g.R.Remember.state c.args.self.now) (place_of g.D.Disk.state g.R.Remember.state c.find_parent.new.self) (place_of g.D.Disk.state g.R.Remember.state c.walk.new.self) c.args.path.now c.in-Some.above.now c.in-Some.name.now c.in-Ok-None.field-0 _ (sym c.as_slice.ensures.value ∙ c.in-Some.ensures.cases.0)
    (subst (λ d. FindsDir (place_of g.D.Disk.state g.R.Remember.state c.args.self.now) d (Ok c.in-Ok-None.field-0) (place_of g.D.Disk.state g.R.Remember.state c.find_parent.new.self)) (c.in-Ok.ensures.ok ∙ ap (λ z. z ++ c.in-Some.above.now) (c.new-root.ensures ∙ c.new.ensures.items)) c.in-Ok-None.ensures.near) c.in-Ok-None.field-0-is c.in-Ok-None.ensures.done.keeps.keeps.counts c.walk.ensures.done.keeps.keeps.counts

pub returns-in-Ok-Some-clause-most : goal.returns-in-Ok-Some-clause-most
returns-in-Ok-Some-clause-most g c =
    taken_most (place_of g.D.Disk.state g.R.Remember.state c.args.self.now) (place_of g.D.Disk.state g.R.Remember.state c.find_parent.new.self) (place_of g.D.Disk.state g.R.Remember.state c.take_member.new.self) c.args.path.now c.in-Some.above.now _ c.in-Ok-Some.found c.in-Some.name.now c.in-Ok-Some.field-0 (sym c.as_slice.ensures.value ∙ c.in-Some.ensures.cases.0)
    (c.in-Ok.ensures.ok ∙ ap (λ z. z ++ c.in-Some.above.now) (c.new-root.ensures ∙ c.new.ensures.items)) c.in-Ok-Some.ensures.done.alike c.in-Ok-Some.field-0-is c.in-Ok-Some.ensures.few c.in-Ok-Some.ensures.done.keeps.keeps c.take_member.ensures.few

pub returns-in-Ok-None-clause-most : goal.returns-in-Ok-None-clause-most
returns-in-Ok-None-clause-most g c = costs_then 2 0 2 (place_of g.D.Disk.state g.R.Remember.state c.args.self.now) (place_of g.D.Disk.state g.R.Remember.state c.find_parent.new.self) (place_of g.D.Disk.state g.R.Remember.state c.walk.new.self) c.args.path.now (omega arith) c.in-Ok-None.ensures.few c.in-Ok-None.ensures.done.keeps.keeps c.walk.ensures.most

pub returns-in_default-clause-most : goal.returns-in_default-clause-most
returns-in_default-clause-most g c = costs_few 0 2 (place_of g.D.Disk.state g.R.Remember.state c.args.self.now) (place_of g.D.Disk.state g.R.Remember.state c.args.self.now) c.args.path.now (omega arith) (inl refl)

pub returns-in_default-below-clause-most : goal.returns-in_default-below-clause-most
returns-in_default-below-clause-most g c = costs_few 0 2 (place_of g.D.Disk.state g.R.Remember.state c.args.self.now) (place_of g.D.Disk.state g.R.Remember.state c.args.self.now) c.args.path.now (omega arith) (inl refl)

pub returns-clause-most : goal.returns-clause-most
returns-clause-most g c = costs_few 2 2 (place_of g.D.Disk.state g.R.Remember.state c.args.self.now) (place_of g.D.Disk.state g.R.Remember.state c.find_parent.new.self) c.args.path.now (omega arith) c.in-Err.ensures.few
