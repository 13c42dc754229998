use Rattle.dav_store.proofs.Staying.{stays_after}
use Rattle.dav_methods.proofs.deleting.delete.Goals as goal

pub returns-clause-stays : goal.returns-clause-stays
returns-clause-stays g c = stays_after _ _ _ _ c.symlink_metadata.ensures.stays c.delete_if.ensures.stays
