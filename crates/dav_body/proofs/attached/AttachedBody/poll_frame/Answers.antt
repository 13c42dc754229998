use Rattle.dav_body.specs.Bodies.{BodyGives}
use Rattle.dav_body.proofs.Frames.{frame_given, frames_after}
use Rattle.dav_body.proofs.attached.AttachedBody.poll_frame.Goals as goal

pub returns-clause-value : goal.returns-clause-value
returns-clause-value g c = frame_given (BodyGives g.S.Steps.gives g.S.Steps.ends_at) _ _ _ _ _ _ c.in-Ready.ensures.gives c.framed.ensures

pub returns-clause-rest : goal.returns-clause-rest
returns-clause-rest g c = frames_after (BodyGives g.S.Steps.gives g.S.Steps.ends_at) _ _ _ _ _ _ c.in-Ready.ensures.gives c.framed.ensures
