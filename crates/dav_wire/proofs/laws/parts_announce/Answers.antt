use Rattle.dav_wire.proofs.BodyLaws.{parts_announce}
use Rattle.dav_wire.proofs.laws.parts_announce.Goals as goal

pub returns : goal.returns
returns c = parts_announce
