use Rattle.dav_model.proofs.JoiningLemmas.{played_learned}
use Rattle.dav_model.proofs.laws.what_is_known_was_told.Goals as goal

pub returns : goal.returns
returns c = played_learned
