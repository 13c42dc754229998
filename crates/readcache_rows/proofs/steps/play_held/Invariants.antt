use Rattle.dav_readcache.specs.Cached.{cached_file}
use Rattle.readcache_rows.specs.Open.{IsFor}
use Rattle.readcache_rows.proofs.steps.play_held.Given as goal

abbrev pub invariant-loop-said : goal.invariant-loop-said
invariant-loop-said g l = IsFor (cached_file g.S.File.DavFile.view) l.opened (g.S.Disk.Disk.state (g.S.GuardedFileSystem.inside l.cache.store))
