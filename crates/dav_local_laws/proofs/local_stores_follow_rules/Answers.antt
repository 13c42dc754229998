use Rattle.dav_local_laws.proofs.LocalFollows.{local_follows}
use Rattle.dav_local_laws.proofs.local_stores_follow_rules.Goals as goal

pub returns : goal.returns
returns g c = local_follows _ _ _ tt (λ s. s.ways) (λ s. g.R.Remember.state s.memory) (λ s. s.moment) c.calls_are_local.ensures c.args._settings.now c.args._fs.now
