use Rattle.dav_wire.proofs.MessageLemmas.{messages_are_one}
use Rattle.dav_wire.proofs.laws.messages_are_one.Goals as goal

pub returns : goal.returns
returns c = messages_are_one
