use Rattle.dav_local_laws.proofs.LocalLoosely.{follows_loosely}
use Rattle.dav_local_laws.proofs.local_stores_follow_loosely.Goals as goal

pub returns : goal.returns
returns g c = follows_loosely _ _ _ tt (λ s. s.ways) (λ s. g.R.Remember.state s.memory) (λ s. s.moment) c.calls_are_local.ensures c.args._settings.now c.args._fs.now
