use Rattle.dav_wire.proofs.BodyLaws.{bodies_stay}
use Rattle.dav_wire.proofs.laws.bodies_stay.Goals as goal

pub returns : goal.returns
returns c = bodies_stay
