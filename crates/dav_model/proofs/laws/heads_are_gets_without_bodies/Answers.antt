use Rattle.dav_model.proofs.RightReplies.{head_as_get}
use Rattle.dav_model.proofs.laws.heads_are_gets_without_bodies.Goals as goal

pub returns : goal.returns
returns c = head_as_get
