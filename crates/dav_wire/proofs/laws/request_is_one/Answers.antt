use Rattle.dav_wire.proofs.RequestLemmas.{request_is_one}
use Rattle.dav_wire.proofs.laws.request_is_one.Goals as goal

pub returns : goal.returns
returns c = request_is_one
