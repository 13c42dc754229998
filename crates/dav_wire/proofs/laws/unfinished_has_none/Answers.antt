use Rattle.dav_wire.proofs.RequestLemmas.{unfinished_none, unfinished_refused}
use Rattle.dav_wire.proofs.laws.unfinished_has_none.Goals as goal

pub returns : goal.returns
returns c = record { none = unfinished_none; refused = unfinished_refused }
