use Rattle.std.proofs.Common.{◌++◌, [], take}
use Rattle.dav_wire.specs.Bodies.{IsBody, IsBodyUnfinished, BodyRefusal}
use Rattle.dav_wire.specs.declared.next.Flaw.TheVariants.{Malformed}
use Rattle.dav_wire.proofs.BodyStepping.{ends_here, wants_end, refuses_end, in_chunks}
use Rattle.dav_wire.proofs.body_steps.last_step.Goals as goal

pub returns-in-Here-clause-does : goal.returns-in-Here-clause-does
returns-in-Here-clause-does c = λ announced passed (same, stands).
    in_chunks (λ a. IsBody a (passed ++ take 2 c.args.held.now) c.args.body.now []) announced same
    (ends_here passed c.args.held.now c.args.body.now stands c.in-Here.ensures)

pub returns-in-Partly-clause-does : goal.returns-in-Partly-clause-does
returns-in-Partly-clause-does c = λ announced passed (same, stands).
    in_chunks (λ a. IsBodyUnfinished a (passed ++ c.args.held.now)) announced same
    (wants_end passed c.args.held.now c.args.body.now 0 stands c.in-Partly.ensures)

pub returns-in-Nowhere-clause-does : goal.returns-in-Nowhere-clause-does
returns-in-Nowhere-clause-does c = λ announced passed (same, stands).
    in_chunks (λ a. BodyRefusal a (passed ++ c.args.held.now) Malformed) announced same
    (refuses_end passed c.args.held.now c.args.body.now 0 stands c.in-Nowhere.ensures)
