use Rattle.dav_store.proofs.Staying.{open_after}
use Rattle.dav_local.proofs.fs.LocalFs.make_one.Goals as goal

pub returns-clause-keeps : goal.returns-clause-keeps
returns-clause-keeps g c = open_after _ _ _ c.in_ok-found.ensures.done.keeps c.make_missing.ensures.keeps
