use Rattle.dav_serving.proofs.RunEnds.{none_partly}
use Rattle.dav_serve.proofs.run.serve_remembering.Goals as goal

pub returns-in-Err-clause-memory : goal.returns-in-Err-clause-memory
returns-in-Err-clause-memory g c = none_partly _ _
