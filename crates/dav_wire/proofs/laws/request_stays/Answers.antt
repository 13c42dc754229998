use Rattle.dav_wire.proofs.RequestLemmas.{request_stays}
use Rattle.dav_wire.proofs.laws.request_stays.Goals as goal

pub returns : goal.returns
returns c = request_stays
