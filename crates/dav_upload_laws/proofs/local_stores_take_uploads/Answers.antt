use Rattle.dav_upload_laws.proofs.LocalReading.{local_leads, local_reads}
use Rattle.dav_upload_laws.proofs.LocalTakes.{local_takes}
use Rattle.dav_upload_laws.proofs.local_stores_take_uploads.Goals as goal

pub returns-clause-takes : goal.returns-clause-takes
returns-clause-takes g c = local_takes _ _ _ tt (λ s. s.ways) (λ s. g.R.Remember.state s.memory) (λ s. s.moment) c.calls_are_local.ensures

pub returns-clause-reads : goal.returns-clause-reads
returns-clause-reads g c = local_reads _ _ _ tt (λ s. s.ways) (λ s. g.R.Remember.state s.memory) (λ s. s.moment) c.calls_are_local.ensures

pub returns-clause-leads : goal.returns-clause-leads
returns-clause-leads g c = local_leads _ _ _ tt (λ s. s.ways) (λ s. g.R.Remember.state s.memory) (λ s. s.moment) c.calls_are_local.ensures
