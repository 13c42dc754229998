use Rattle.dav_readcache.proofs.Contents.{held_sound}
use Rattle.dav_readcache.proofs.laws.held_contents_are_sound.Goals as goal

pub returns : goal.returns
returns g c = held_sound g.S.GuardedFileSystem.view c.args._cache.now c.args._credentials.now
