use Rattle.dav_wire.proofs.MessageLemmas.{message_is_one}
use Rattle.dav_wire.proofs.laws.message_is_one.Goals as goal

pub returns : goal.returns
returns c = message_is_one
