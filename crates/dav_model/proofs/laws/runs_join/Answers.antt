use Rattle.dav_model.proofs.JoiningLemmas.{played_join, played_on_from}
use Rattle.dav_model.proofs.laws.runs_join.Goals as goal

pub returns : goal.returns
returns c = record { goes_on = played_on_from; joined = played_join }
