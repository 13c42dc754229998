use Rattle.dav_model.proofs.Framing.{given_length, gives_none}
use Rattle.dav_model.proofs.laws.bodies_have_the_announced_length.Goals as goal

pub returns : goal.returns
returns c = record { length = given_length; none = gives_none }
