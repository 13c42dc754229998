use Rattle.dav_local_laws.proofs.LocalUsual.{local_usual}
use Rattle.dav_local_laws.proofs.local_stores_refuse_few.Goals as goal

pub returns : goal.returns
returns g c = local_usual _ _ _ tt (λ s. s.ways) (λ s. g.R.Remember.state s.memory) (λ s. s.moment) c.calls_are_local.ensures
