use Rattle.dav_wire.proofs.HeadsReadBack.{heads_back}
use Rattle.dav_wire.proofs.laws.answer_heads_are_read_back.Goals as goal

pub returns : goal.returns
returns c = heads_back
