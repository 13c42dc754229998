use Rattle.dav_store.proofs.Staying.{stays_then}
use Rattle.dav_walks.proofs.copying.copy_tree.Goals as goal

pub returns-in-Ok-clause-stays : goal.returns-in-Ok-clause-stays
returns-in-Ok-clause-stays g c = stays_then _ _ _ _ c.copy_dir.ensures.stays c.copy_pending.ensures.stays
