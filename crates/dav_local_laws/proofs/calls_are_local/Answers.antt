use Rattle.dav_local_laws.proofs.LocalStore.{local_store}
use Rattle.dav_local_laws.proofs.calls_are_local.Goals as goal

pub returns : goal.returns
returns g c = local_store g.D.Disk.state g.D.Disk.loan g.R.Remember.state g.met.D.Disk.world
