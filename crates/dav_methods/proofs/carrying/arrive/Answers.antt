use Rattle.dav_store.proofs.Staying.{stays_after}
use Rattle.dav_methods.proofs.carrying.arrive.Goals as goal

pub returns-else-not-carriage-clause-stays : goal.returns-else-not-carriage-clause-stays
returns-else-not-carriage-clause-stays g c = stays_after _ _ _ _ c.symlink_metadata.ensures.stays c.replace.ensures.stays
