use Rattle.dav_wire.proofs.RequestLemmas.{refusal_has_none}
use Rattle.dav_wire.proofs.laws.refusal_has_none.Goals as goal

pub returns : goal.returns
returns c = refusal_has_none
