use Rattle.std.proofs.Common.{ℕ, List, [], ◌++◌, Some, ◌∙◌, ap, refl}
use Rattle.dav_body.specs.Bodies.{BodyGives}
use Rattle.dav_body.proofs.Joining.{taken_more, no_room, still_at_first, still_more}
use Rattle.dav_body.proofs.collecting.collect.Goals as goal

pub loop-piece-init : goal.loop-piece-init
loop-piece-init g c = record { may = c.requires; taken = ([], (refl, refl), c.empty-joined.ensures); still = rw c.empty-joined.ensures (still_at_first _) }

pub returns-in_err-extend-in-Ready-Some-Ok-clause-joins : goal.returns-in_err-extend-in-Ready-Some-Ok-clause-joins
returns-in_err-extend-in-Ready-Some-Ok-clause-joins g c =
    let came = c.in-Ready-Some-Ok.field-0-is ∙ ap Some c.in-Ready-Some-Ok.field-0-0-is in
    no_room (BodyGives g.S.Steps.gives g.S.Steps.ends_at) _ _ _ _ _ _ _ _ _ c.loop-piece.invariant.taken (rw came at c.in-Ready-Some-Ok.ensures.gives) c.from_residual.ensures.1

pub loop-piece-preserved-in_ok-extend-in-Ready-Some-Ok : goal.loop-piece-preserved-in_ok-extend-in-Ready-Some-Ok
loop-piece-preserved-in_ok-extend-in-Ready-Some-Ok g c =
    let came = c.in-Ready-Some-Ok.field-0-is ∙ ap Some c.in-Ready-Some-Ok.field-0-0-is in
    let text = c.in_ok-extend-in-Ready-Some-Ok.ensures.ok ∙ ap (λ (t : List ℕ). c.loop-piece.joined ++ t) c.as_slice.ensures in record {
      may = c.in-Ready-Some-Ok.ensures.may;
      taken = rw text (taken_more (BodyGives g.S.Steps.gives g.S.Steps.ends_at) _ _ _ _ _ _ _ _ c.loop-piece.invariant.taken (rw came at c.in-Ready-Some-Ok.ensures.gives));
      still = rw text (still_more g.S.Steps.ends_at _ _ _ _ _ c.loop-piece.invariant.still (rw came at c.in-Ready-Some-Ok.ensures.tells));
    }

pub loop-piece-preserved : goal.loop-piece-preserved
loop-piece-preserved g c =
    let came = c.in-Ready-Some-Ok.field-0-is ∙ ap Some c.in-Ready-Some-Ok.field-0-0-is in
    let text = c.in_ok-extend-in-Ready-Some-Ok.ensures.ok ∙ ap (λ (t : List ℕ). c.loop-piece.joined ++ t) c.as_slice.ensures in record {
      may = c.in-Ready-Some-Ok.ensures.may;
      taken = rw text (taken_more (BodyGives g.S.Steps.gives g.S.Steps.ends_at) _ _ _ _ _ _ _ _ c.loop-piece.invariant.taken (rw came at c.in-Ready-Some-Ok.ensures.gives));
      still = rw text (still_more g.S.Steps.ends_at _ _ _ _ _ c.loop-piece.invariant.still (rw came at c.in-Ready-Some-Ok.ensures.tells));
    }
