use Rattle.std.proofs.Common.{ℕ, ◌++◌, subst, take, arith}
use Rattle.dav_wire.specs.Bodies.{IsBodyUnfinished, BodyRefusal}
use Rattle.dav_wire.specs.BodySteps.{StandsInChunk}
use Rattle.dav_wire.specs.declared.next.Flaw.TheVariants.{Malformed, TooLarge}
use Rattle.dav_wire.proofs.BodyStepping.{goes_inside, refuses_size, refuses_line, wants_line, in_chunks}
use Rattle.dav_wire.proofs.body_steps.line_step.Goals as goal

pub returns-then-size-saturating_sub-clause-does : goal.returns-then-size-saturating_sub-clause-does
returns-then-size-saturating_sub-clause-does c = λ announced passed (same, begins).
    in_chunks (λ a. BodyRefusal a (passed ++ c.args.held.now) TooLarge) announced same
    (refuses_size passed c.args.held.now c.args.body.now c.in-Line.size c.in-Line.len begins c.in-Line.ensures.2 (omega arith))

pub returns-then-size-eq0-clause-does : goal.returns-then-size-eq0-clause-does
returns-then-size-eq0-clause-does c = λ announced passed (same, begins). (
  same,
  subst (λ (n : ℕ). StandsInChunk (passed ++ take c.in-Line.len c.args.held.now) c.args.body.now n n) c.if-size-eq0.true
      (goes_inside passed c.args.held.now c.args.body.now c.in-Line.size c.in-Line.len begins c.in-Line.ensures.2 (omega arith)),
)

pub returns-else-size-eq0-clause-does : goal.returns-else-size-eq0-clause-does
returns-else-size-eq0-clause-does c = λ announced passed (same, begins).
    (same, c.in-Line.size, omega arith, goes_inside passed c.args.held.now c.args.body.now c.in-Line.size c.in-Line.len begins c.in-Line.ensures.2 (omega arith))

pub returns-in-More-clause-does : goal.returns-in-More-clause-does
returns-in-More-clause-does c = λ announced passed (same, begins).
    in_chunks (λ a. IsBodyUnfinished a (passed ++ c.args.held.now)) announced same
    (wants_line passed c.args.held.now c.args.body.now begins c.in-More.ensures.1 c.in-More.ensures.2)

pub returns-in-Never-clause-does : goal.returns-in-Never-clause-does
returns-in-Never-clause-does c = λ announced passed (same, begins).
    in_chunks (λ a. BodyRefusal a (passed ++ c.args.held.now) Malformed) announced same
    (refuses_line passed c.args.held.now c.args.body.now begins c.in-Never.ensures)
