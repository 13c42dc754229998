use Rattle.dav_readcache.proofs.LocalTold.{local_opens, local_there}
use Rattle.dav_readcache.proofs.laws.local_worlds_stay.Goals as goal

pub returns : goal.returns
returns g c = record {
  there = λ s w path told. local_there g.D.Disk.state g.D.Disk.loan g.R.Remember.state s w path told;
  opened = λ s w path told. local_opens g.D.Disk.state g.D.Disk.loan g.R.Remember.state s w path told;
}
