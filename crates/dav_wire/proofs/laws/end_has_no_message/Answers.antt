use Rattle.dav_wire.proofs.MessageLemmas.{end_has_no_message}
use Rattle.dav_wire.proofs.laws.end_has_no_message.Goals as goal

pub returns : goal.returns
returns c = end_has_no_message
