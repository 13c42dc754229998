use Rattle.dav_serving.proofs.RunEnds.{none_partly, starved_flushed}
use Rattle.dav_serving.proofs.serving.serve_requests.Goals as goal

pub returns-in-Err-clause-memory : goal.returns-in-Err-clause-memory
returns-in-Err-clause-memory g c = none_partly _ _

pub returns-clause-memory : goal.returns-clause-memory
returns-clause-memory g c =
    starved_flushed _ _ _ c.in-Err-answer_all.ensures.memory c.flush.ensures.pushes c.flush.ensures.emptied
