use Rattle.dav_wire.proofs.BodyLaws.{unfinished_body_none, unfinished_body_not_refused}
use Rattle.dav_wire.proofs.laws.unfinished_body_has_none.Goals as goal

pub returns : goal.returns
returns c = record { none = unfinished_body_none; refused = unfinished_body_not_refused }
