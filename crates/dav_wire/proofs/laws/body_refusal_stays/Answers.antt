use Rattle.dav_wire.proofs.BodyLaws.{body_refusal_stays, body_flaws_are_one, body_refusal_has_none}
use Rattle.dav_wire.proofs.laws.body_refusal_stays.Goals as goal

pub returns : goal.returns
returns c = record { stays = body_refusal_stays; one = body_flaws_are_one; none = body_refusal_has_none }
