use Rattle.dav_wire.proofs.RequestLemmas.{requests_are_one}
use Rattle.dav_wire.proofs.laws.requests_are_one.Goals as goal

pub returns : goal.returns
returns c = requests_are_one
