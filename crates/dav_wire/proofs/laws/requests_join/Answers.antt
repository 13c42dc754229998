use Rattle.dav_wire.proofs.RequestLemmas.{requests_join}
use Rattle.dav_wire.proofs.laws.requests_join.Goals as goal

pub returns : goal.returns
returns c = requests_join
