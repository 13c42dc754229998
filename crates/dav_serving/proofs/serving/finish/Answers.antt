use Rattle.std.proofs.Common.{refl}
use Rattle.dav_serving.proofs.RunEnds.{finishes, finishes_not}
use Rattle.dav_serving.proofs.serving.finish.Goals as goal

pub returns-in-Ok : goal.returns-in-Ok
returns-in-Ok g c = finishes _ _ _ _ _ refl c.in-Ok.ensures.emptied c.in-Ok.ensures.pushes

pub returns-in-Err : goal.returns-in-Err
returns-in-Err g c = finishes_not _ _ _ _ _ _ refl c.in-Err.ensures.pushes
