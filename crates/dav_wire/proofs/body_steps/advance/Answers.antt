use Rattle.std.proofs.Common.{◌++◌, [], List, ℕ, Ok, ap, take, subst, sym, arith}
use Rattle.dav_wire.specs.Bodies.{IsBody, IsBodyUnfinished}
use Rattle.dav_wire.specs.BodySteps.{Stands}
use Rattle.dav_wire.proofs.BodyStepping.{passed_on, passed_all}
use Rattle.dav_wire.proofs.body_steps.advance.Goals as goal

pub steps-preserved : goal.steps-preserved
steps-preserved c =
    let fits = rw c.in-Ok-On.field-0-is at c.in-Ok-On.ensures.fits in
    record {
      within = omega (arith, fits.1, c.split_at.ensures.back_len);
      stands = λ announced passed start.
          subst (λ (x : List ℕ). Stands announced x c.in-Ok-On.to c.take_step.new.body.items)
          (passed_on passed c.args.held.now _ c.steps.at c.in-Ok-On.used c.split_at.ensures.back)
          (rw c.in-Ok-On.field-0-is at (c.in-Ok-On.ensures.does announced (passed ++ take c.steps.at c.args.held.now) (c.steps.invariant.stands announced passed start)));
    }

pub returns-in-Ok-Over-clause-does : goal.returns-in-Ok-Over-clause-does
returns-in-Ok-Over-clause-does c = λ announced passed start.
    subst (λ (x : List ℕ). IsBody announced x c.take_step.new.body.items [])
    (passed_on passed c.args.held.now _ c.steps.at c.in-Ok-Over.used c.split_at.ensures.back)
    (rw c.in-Ok-Over.field-0-is at (c.in-Ok-Over.ensures.does announced (passed ++ take c.steps.at c.args.held.now) (c.steps.invariant.stands announced passed start)))

pub returns-in-Ok-More-clause-does : goal.returns-in-Ok-More-clause-does
returns-in-Ok-More-clause-does c = λ announced passed start.
    let stands = c.steps.invariant.stands announced passed start in (
      subst (λ (x : List ℕ). Stands announced (passed ++ take c.steps.at c.args.held.now) c.steps.place x)
          (sym (c.in-Ok-More.ensures.same (ap Ok c.in-Ok-More.field-0-is))) stands,
      subst (λ (x : List ℕ). IsBodyUnfinished announced x) (passed_all passed c.args.held.now _ c.steps.at c.split_at.ensures.back)
          (rw c.in-Ok-More.field-0-is at (c.in-Ok-More.ensures.does announced (passed ++ take c.steps.at c.args.held.now) stands)),
    )
