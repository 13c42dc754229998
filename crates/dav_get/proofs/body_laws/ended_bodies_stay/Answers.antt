use Rattle.dav_get.proofs.BodyEnds.{ended_stay}
use Rattle.dav_get.proofs.body_laws.ended_bodies_stay.Goals as goal

pub returns : goal.returns
returns g c = ended_stay g.F.DavFile.view
