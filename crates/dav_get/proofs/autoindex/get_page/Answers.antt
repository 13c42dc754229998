use Rattle.dav_store.specs.Leads.{none}
use Rattle.dav_get.proofs.autoindex.get_page.Goals as goal

pub returns-clause-leads : goal.returns-clause-leads
returns-clause-leads g c = none
