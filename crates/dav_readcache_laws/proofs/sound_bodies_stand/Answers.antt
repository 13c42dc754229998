use Rattle.dav_readcache_laws.proofs.Joined.{body_stands}
use Rattle.dav_readcache_laws.proofs.sound_bodies_stand.Goals as goal

pub returns : goal.returns
returns g c = λ s w file. body_stands g.F.DavFile.view s w file
