use Rattle.dav_store.specs.Leads.{none}
use Rattle.dav_get.proofs.get.get_index.Goals as goal

pub returns-then-not-is_plain-clause-leads : goal.returns-then-not-is_plain-clause-leads
returns-then-not-is_plain-clause-leads g c = none

pub returns-in-Err-clause-leads : goal.returns-in-Err-clause-leads
returns-in-Err-clause-leads g c = none
