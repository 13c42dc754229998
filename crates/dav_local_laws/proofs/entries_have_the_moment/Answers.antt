use Rattle.dav_local_laws.proofs.LocalDates.{calls_dated, leads_dated}
use Rattle.dav_local_laws.proofs.entries_have_the_moment.Goals as goal

pub returns : goal.returns
returns g c = record {
  reads = λ t leads. leads_dated _ _ _ (λ s. s.ways) (λ s. g.R.Remember.state s.memory) (λ s. s.moment) c.calls_are_local.ensures tt c.args._fs.now t leads;
  writes = λ t reached. calls_dated _ _ _ (λ s. s.ways) (λ s. g.R.Remember.state s.memory) (λ s. s.moment) c.calls_are_local.ensures tt c.args._fs.now t reached;
}
