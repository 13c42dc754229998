-- What was played along a trail is that of the tree, where the run is valid.
use Rattle.std.proofs.Common.{List, [], Result}
use Rattle.dav_io.specs.declared.failure.NoMemory.{NoMemory}
use Rattle.dav_model.specs.declared.answer.Answer.{Answer}
use Rattle.dav_model.specs.declared.step.Step.{Step}
use Rattle.dav_model.specs.Play.{Played, Stage}
use Rattle.dav_model.specs.Trail.{Move}
use Rattle.dav_model.proofs.Denied.{each_by_tree}
use Rattle.dav_serving.specs.Stages.{PlayedOn}

pub played_along : (trail : List Move) (a b : Stage) (steps : List Step) (answers : List Answer) (result : Result Unit NoMemory)
    → Played trail a steps [] answers result b → PlayedOn a steps answers result b
played_along trail a b steps answers result played = record {
  trail = trail;
  played = played;
  headline = each_by_tree a.playing a.at trail played.player played.answered;
}
