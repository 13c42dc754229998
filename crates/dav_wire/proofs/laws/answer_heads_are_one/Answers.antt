use Rattle.dav_wire.proofs.HeadsReadBack.{heads_once}
use Rattle.dav_wire.proofs.laws.answer_heads_are_one.Goals as goal

pub returns : goal.returns
returns c = heads_once
