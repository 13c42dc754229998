use Rattle.dav_wire.proofs.BodyLaws.{bodies_are_one}
use Rattle.dav_wire.proofs.laws.bodies_are_one.Goals as goal

pub returns : goal.returns
returns c = bodies_are_one
