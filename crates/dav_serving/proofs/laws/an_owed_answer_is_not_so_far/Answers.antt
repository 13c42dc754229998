use Rattle.dav_serving.proofs.OwedAnswers.{not_so_far}
use Rattle.dav_serving.proofs.laws.an_owed_answer_is_not_so_far.Goals as goal

pub returns : goal.returns
returns c = not_so_far
