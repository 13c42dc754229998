use Rattle.dav_readcache.proofs.Sounds.{entries_sound}
use Rattle.dav_readcache.proofs.laws.entries_stay_sound.Goals as goal

pub returns : goal.returns
returns g c = entries_sound g.S.GuardedFileSystem.view c.args._cache.now c.args._credentials.now
