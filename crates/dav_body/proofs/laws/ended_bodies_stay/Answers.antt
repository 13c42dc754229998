use Rattle.dav_body.proofs.Ends.{ended_stays}
use Rattle.dav_body.proofs.laws.ended_bodies_stay.Goals as goal

pub returns : goal.returns
returns g c = ended_stays g.S.Steps.gives g.S.Steps.ends_at
