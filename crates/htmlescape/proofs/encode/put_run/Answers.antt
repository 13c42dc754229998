use Rattle.dav_io.proofs.AppendingLemmas.{appends_last}
use Rattle.htmlescape.proofs.encode.put_run.Goals as goal

pub returns-in-Ok : goal.returns-in-Ok
returns-in-Ok g c = appends_last _ _ _ _ _ _ c.in-Ok.ensures c.put.ensures
