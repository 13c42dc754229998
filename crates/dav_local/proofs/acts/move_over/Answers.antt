use Rattle.dav_store.proofs.Staying.{open_then}
use Rattle.dav_local.proofs.acts.move_over.Goals as goal

pub returns-clause-keeps : goal.returns-clause-keeps
returns-clause-keeps g c = open_then _ _ _ c.remove_at-removal.ensures.keeps c.rename_at.ensures.keeps
