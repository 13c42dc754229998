use Rattle.dav_wire.proofs.MessageLemmas.{message_refusal_stays, message_flaws_are_one, message_refusal_has_none}
use Rattle.dav_wire.proofs.laws.message_refusal_stays.Goals as goal

pub returns : goal.returns
returns c = record { stays = message_refusal_stays; one = message_flaws_are_one; none = message_refusal_has_none }
