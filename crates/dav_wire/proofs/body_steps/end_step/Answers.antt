use Rattle.std.proofs.Common.{◌++◌}
use Rattle.dav_wire.specs.Bodies.{IsBodyUnfinished, BodyRefusal}
use Rattle.dav_wire.specs.declared.next.Flaw.TheVariants.{Malformed}
use Rattle.dav_wire.proofs.BodyStepping.{goes_between, wants_end, refuses_end, in_chunks}
use Rattle.dav_wire.proofs.body_steps.end_step.Goals as goal

pub returns-in-Here-clause-does : goal.returns-in-Here-clause-does
returns-in-Here-clause-does c = λ announced passed (same, size, some, stands).
    (same, goes_between passed c.args.held.now c.args.body.now size some stands c.in-Here.ensures)

pub returns-in-Partly-clause-does : goal.returns-in-Partly-clause-does
returns-in-Partly-clause-does c = λ announced passed (same, size, some, stands).
    in_chunks (λ a. IsBodyUnfinished a (passed ++ c.args.held.now)) announced same
    (wants_end passed c.args.held.now c.args.body.now size stands c.in-Partly.ensures)

pub returns-in-Nowhere-clause-does : goal.returns-in-Nowhere-clause-does
returns-in-Nowhere-clause-does c = λ announced passed (same, size, some, stands).
    in_chunks (λ a. BodyRefusal a (passed ++ c.args.held.now) Malformed) announced same
    (refuses_end passed c.args.held.now c.args.body.now size stands c.in-Nowhere.ensures)
