use Rattle.dav_store.proofs.Staying.{open_then}
use Rattle.dav_local.proofs.fs.LocalFs.create_defaults.Goals as goal

pub returns-in-Ok-clause-keeps : goal.returns-in-Ok-clause-keeps
returns-in-Ok-clause-keeps g c = open_then _ _ _ c.in-Ok.ensures.keeps c.make_one-in-Ok.ensures.keeps
