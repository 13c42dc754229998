use Rattle.dav_readcache.proofs.Alike.{shows_alike}
use Rattle.dav_readcache.proofs.laws.sound_caches_show.Goals as goal

pub returns : goal.returns
returns g c = shows_alike g.S.GuardedFileSystem.view c.args._cache.now c.args._credentials.now
