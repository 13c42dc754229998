use Rattle.dav_local_laws.proofs.LocalLeads.{calls_remain}
use Rattle.dav_local_laws.proofs.calls_teach_nothing.Goals as goal

pub returns : goal.returns
returns g c = λ t reached. calls_remain _ _ _ (λ s. s.ways) (λ s. g.R.Remember.state s.memory) (λ s. s.moment) c.calls_are_local.ensures tt c.args._fs.now t reached
