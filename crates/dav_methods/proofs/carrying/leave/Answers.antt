use Rattle.dav_store.proofs.Staying.{stays_after}
use Rattle.dav_methods.proofs.carrying.leave.Goals as goal

pub returns-clause-stays : goal.returns-clause-stays
returns-clause-stays g c = stays_after _ _ _ _ c.pass_parent.ensures.stays c.arrive_if.ensures.stays
