use Rattle.dav_store.proofs.Lending.{lends_on}
use Rattle.dav_get.proofs.FilesLeftOpen.{held_after}
use Rattle.dav_get.proofs.get.send_from.Goals as goal

pub returns-in-Ok-clause-life : goal.returns-in-Ok-clause-life
returns-in-Ok-clause-life g c =
    held_after g.S.GuardedFileSystem.view _ _ _ _ _ _ c.file_seek.ensures.done.keeps c.file_seek.ensures.done.live c.file_seek.ensures.handle c.send-in-Ok.ensures.life

pub returns-in-Err-clause-life : goal.returns-in-Err-clause-life
returns-in-Err-clause-life g c =
    held_after g.S.GuardedFileSystem.view _ _ _ _ _ _ c.file_seek.ensures.done.keeps c.file_seek.ensures.done.live c.file_seek.ensures.handle c.send_unplaced.ensures.life

pub returns-in-Ok-clause-store : goal.returns-in-Ok-clause-store
returns-in-Ok-clause-store g c =
    lends_on g.S.GuardedFileSystem.view g.S.GuardedFileSystem.listings g.met.S.GuardedFileSystem.fits g.met.S.GuardedFileSystem.puts_over _ _ _ c.file_seek.ensures.lent.store c.send-in-Ok.ensures.store

pub returns-in-Err-clause-store : goal.returns-in-Err-clause-store
returns-in-Err-clause-store g c =
    lends_on g.S.GuardedFileSystem.view g.S.GuardedFileSystem.listings g.met.S.GuardedFileSystem.fits g.met.S.GuardedFileSystem.puts_over _ _ _ c.file_seek.ensures.lent.store c.send_unplaced.ensures.store
