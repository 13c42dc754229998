use Rattle.dav_readcache.proofs.Leading.{reads_sound}
use Rattle.dav_readcache.proofs.laws.reads_leave_entries_sound.Goals as goal

pub returns : goal.returns
returns g c = λ trail w t faithful inside files told now all led.
    reads_sound g.S.GuardedFileSystem.view g.S.GuardedFileSystem.listings c.args._credentials.now trail faithful w inside files told c.args._cache.now t now all led
