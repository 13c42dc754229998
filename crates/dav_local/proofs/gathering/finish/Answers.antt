use Rattle.std.proofs.Common.{Err, Ok, refl}
use Rattle.dav_local.proofs.Gathered.{finishes_seen}
use Rattle.dav_local.proofs.gathering.finish.Goals as goal

pub returns-in-Ok-clause-done : goal.returns-in-Ok-clause-done
returns-in-Ok-clause-done g c = rw c.in-Some.is
    (Ok c.in-Ok.field-0, c.finish.new.self, rw c.in-Ok.is at (finishes_seen g.R.Remember.state _ _ _ _ _ c.finish.ensures.done), refl, refl, refl)

pub returns-in-Err-clause-done : goal.returns-in-Err-clause-done
returns-in-Err-clause-done g c = rw c.in-Some.is
    (Err c.in-Err.field-0, c.finish.new.self, rw c.in-Err.is at (finishes_seen g.R.Remember.state _ _ _ _ _ c.finish.ensures.done), refl, refl, refl)
