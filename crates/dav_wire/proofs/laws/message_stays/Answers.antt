use Rattle.dav_wire.proofs.MessageLemmas.{message_stays}
use Rattle.dav_wire.proofs.laws.message_stays.Goals as goal

pub returns : goal.returns
returns c = message_stays
