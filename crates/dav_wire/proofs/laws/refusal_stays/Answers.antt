use Rattle.dav_wire.proofs.RequestLemmas.{refusal_stays}
use Rattle.dav_wire.proofs.laws.refusal_stays.Goals as goal

pub returns : goal.returns
returns c = refusal_stays
