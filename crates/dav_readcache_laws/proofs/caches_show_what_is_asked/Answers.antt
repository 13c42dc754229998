use Rattle.dav_readcache_laws.proofs.Joined.{shows_for}
use Rattle.dav_readcache_laws.proofs.caches_show_what_is_asked.Goals as goal

pub returns : goal.returns
returns g c = λ w q looked opened listed files worlds.
    shows_for g.S.GuardedFileSystem.view g.S.GuardedFileSystem.listings c.args._cache.now c.args._credentials.now w q looked opened listed files worlds
