use Rattle.dav_wire.proofs.RequestLemmas.{end_has_none}
use Rattle.dav_wire.proofs.laws.end_has_none.Goals as goal

pub returns : goal.returns
returns c = end_has_none
