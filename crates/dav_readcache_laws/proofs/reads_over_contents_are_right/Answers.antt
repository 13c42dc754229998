use Rattle.dav_local.proofs.LocalView.{local_lists, local_view}
use Rattle.dav_local_laws.proofs.LocalStore.{local_store}
use Rattle.dav_readcache_laws.proofs.RuledCache.{cache_by_rules}
use Rattle.dav_local_laws.proofs.LocalReads.{local_by_rules}
use Rattle.dav_local_laws.proofs.RuledReads.{ruled_reads}
use Rattle.dav_readcache_laws.proofs.reads_over_contents_are_right.Goals as goal

pub returns : goal.returns
returns g c = λ s t q result reply life heard same.
    ruled_reads _ _ _ _
    (cache_by_rules (local_view g.D.Disk.state g.D.Disk.loan g.R.Remember.state) (local_lists g.D.Disk.state g.D.Disk.loan g.R.Remember.state) _ _ (local_by_rules (local_view g.D.Disk.state g.D.Disk.loan g.R.Remember.state) (local_lists g.D.Disk.state g.D.Disk.loan g.R.Remember.state) _ _ _ _ (local_store g.D.Disk.state g.D.Disk.loan g.R.Remember.state g.met.D.Disk.world)))
    q tt s result t life reply same heard
