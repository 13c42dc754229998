use Rattle.dav_wire.proofs.MessageLemmas.{messages_join}
use Rattle.dav_wire.proofs.laws.messages_join.Goals as goal

pub returns : goal.returns
returns c = messages_join
