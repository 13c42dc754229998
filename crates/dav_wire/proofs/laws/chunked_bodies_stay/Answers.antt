use Rattle.dav_wire.proofs.Chunking.{body_stays}
use Rattle.dav_wire.proofs.laws.chunked_bodies_stay.Goals as goal

pub returns : goal.returns
returns c = body_stays
