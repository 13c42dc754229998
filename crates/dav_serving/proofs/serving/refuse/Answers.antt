use Rattle.std.proofs.Common.{refl}
use Rattle.dav_serving.specs.declared.ending.Ending.TheVariants.{Refused, SinkFailed}
use Rattle.dav_serving.proofs.RunEnds.{refuses, refuses_not}
use Rattle.dav_serving.proofs.serving.refuse.Goals as goal

pub returns-in-Ok : goal.returns-in-Ok
returns-in-Ok g c = rw c.refusal_text.ensures at (refuses Refused _ c.in-Ok.ensures c.finish.ensures)

pub returns-in-Err : goal.returns-in-Err
returns-in-Err g c = rw c.refusal_text.ensures at (refuses_not Refused SinkFailed refl c.in-Err.ensures)
