use Rattle.dav_local_laws.specs.Simple.{opened}
use Rattle.dav_local.proofs.LocalView.{local_lists, local_view}
use Rattle.dav_readcache.proofs.LocalTold.{local_there}
use Rattle.dav_readcache.proofs.Told.{local_files_told}
use Rattle.dav_readcache_laws.specs.Plain.{listed, looked}
use Rattle.dav_readcache_laws.proofs.Joined.{shows_for}
use Rattle.dav_readcache_laws.proofs.LocalAll.{shows_for_all}
use Rattle.dav_local_laws.proofs.LocalStore.{local_store}
use Rattle.dav_readcache_laws.proofs.local_stores_show_what_is_asked.Goals as goal

pub returns : goal.returns
returns g c =
    record {
      inside = λ w q told plain none. shows_for_all (local_view g.D.Disk.state g.D.Disk.loan g.R.Remember.state) (local_lists g.D.Disk.state g.D.Disk.loan g.R.Remember.state) _ _ _ _ (local_store g.D.Disk.state g.D.Disk.loan g.R.Remember.state g.met.D.Disk.world) c.args._fs.now tt w plain told none q;
      cached = λ w q cache told plain none sound.
          shows_for (local_view g.D.Disk.state g.D.Disk.loan g.R.Remember.state) (local_lists g.D.Disk.state g.D.Disk.loan g.R.Remember.state) cache tt w q (looked w) (opened w) (listed w) local_files_told
          (λ path. local_there g.D.Disk.state g.D.Disk.loan g.R.Remember.state cache.store w path told) sound (shows_for_all (local_view g.D.Disk.state g.D.Disk.loan g.R.Remember.state) (local_lists g.D.Disk.state g.D.Disk.loan g.R.Remember.state) _ _ _ _ (local_store g.D.Disk.state g.D.Disk.loan g.R.Remember.state g.met.D.Disk.world) cache.store tt w plain told none q);
    }
