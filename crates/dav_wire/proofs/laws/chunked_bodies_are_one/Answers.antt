use Rattle.dav_wire.proofs.Chunking.{body_once}
use Rattle.dav_wire.proofs.laws.chunked_bodies_are_one.Goals as goal

pub returns : goal.returns
returns c = body_once
