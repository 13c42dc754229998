use Rattle.dav_local_laws.proofs.LocalLeads.{local_remains}
use Rattle.dav_local_laws.proofs.reads_learn_what_stands.Goals as goal

pub returns : goal.returns
returns g c = λ t leads. local_remains _ _ _ (λ s. s.ways) (λ s. g.R.Remember.state s.memory) (λ s. s.moment) c.calls_are_local.ensures tt c.args._fs.now t leads
