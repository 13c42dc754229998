use Rattle.std.proofs.Common.{◌++◌, rules, arith}
use Rattle.dav_wire.specs.Bodies.{IsBodyUnfinished}
use Rattle.dav_wire.proofs.BodyStepping.{goes_on, wants_bytes, in_chunks}
use Rattle.dav_wire.proofs.body_steps.chunk_step.Goals as goal

pub returns-then-is_empty-clause-does : goal.returns-then-is_empty-clause-does
returns-then-is_empty-clause-does c = λ announced passed (same, size, some, stands).
    in_chunks (λ a. IsBodyUnfinished a (passed ++ c.args.held.now)) announced same
    (wants_bytes passed c.args.held.now c.args.body.now.items size c.args.left stands c.requires (search rules))

pub returns-in-Ok-clause-does : goal.returns-in-Ok-clause-does
returns-in-Ok-clause-does c = λ announced passed (same, size, some, stands).
    let long = c.in-Ok.ensures.0 in (
      same,
      size,
      some,
      rw c.in-Ok.ensures.1
          (goes_on passed c.args.held.now c.args.body.now.items size c.args.left c.in-Ok.count stands (omega arith) (omega arith)),
    )
