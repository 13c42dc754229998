use Rattle.dav_readcache.proofs.Inside.{members_alike}
use Rattle.dav_readcache.proofs.laws.caches_show_members.Goals as goal

pub returns : goal.returns
returns g c = members_alike g.S.GuardedFileSystem.view g.S.GuardedFileSystem.listings c.args._cache.now c.args._credentials.now
