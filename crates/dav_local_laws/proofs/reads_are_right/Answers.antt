use Rattle.dav_local_laws.proofs.LocalReads.{local_reads}
use Rattle.dav_local_laws.proofs.reads_are_right.Goals as goal

pub returns : goal.returns
returns g c = λ q t result reply life heard same. local_reads _ _ _ (λ s. s.ways) (λ s. g.R.Remember.state s.memory) (λ s. s.moment) c.calls_are_local.ensures q tt c.args._fs.now result t life reply same heard
