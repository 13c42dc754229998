use Rattle.dav_body.specs.Readers.{ReadsUntil}
use Rattle.dav_body.proofs.Frames.{frame_given, frames_after}
use Rattle.dav_body.proofs.stream_body.StreamBodyBody.poll_frame.Goals as goal

pub returns-clause-value : goal.returns-clause-value
returns-clause-value g c = frame_given ReadsUntil _ _ _ _ _ _ c.next.ensures.gives c.framed.ensures

pub returns-clause-rest : goal.returns-clause-rest
returns-clause-rest g c = frames_after ReadsUntil _ _ _ _ _ _ c.next.ensures.gives c.framed.ensures
