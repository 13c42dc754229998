use Rattle.dav_serving.proofs.ServedGiveAnnounced.{served_give}
use Rattle.dav_serving.proofs.laws.served_answers_give_what_they_announce.Goals as goal

pub returns : goal.returns
returns c = served_give
