use Rattle.dav_wire.proofs.MessageLemmas.{unfinished_message_none, unfinished_message_refused}
use Rattle.dav_wire.proofs.laws.unfinished_message_has_none.Goals as goal

pub returns : goal.returns
returns c = record { none = unfinished_message_none; refused = unfinished_message_refused }
