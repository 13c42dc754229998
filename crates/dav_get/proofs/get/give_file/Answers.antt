use Rattle.dav_store.proofs.Lending.{lends_on}
use Rattle.dav_get.proofs.FilesLeftOpen.{held_kept}
use Rattle.dav_get.proofs.get.give_file.Goals as goal

pub returns-in-Ok-Some-clause-life : goal.returns-in-Ok-Some-clause-life
returns-in-Ok-Some-clause-life g c =
    held_kept g.S.GuardedFileSystem.view _ _ _ _ _ _ c.file_redirect.ensures.done.keeps c.file_redirect.ensures.handle c.send_away.ensures.life

pub returns-in-Ok-None-clause-life : goal.returns-in-Ok-None-clause-life
returns-in-Ok-None-clause-life g c =
    held_kept g.S.GuardedFileSystem.view _ _ _ _ _ _ c.file_redirect.ensures.done.keeps c.file_redirect.ensures.handle c.send_file-in-Ok-None.ensures.life

pub returns-in-Err-clause-life : goal.returns-in-Err-clause-life
returns-in-Err-clause-life g c =
    held_kept g.S.GuardedFileSystem.view _ _ _ _ _ _ c.file_redirect.ensures.done.keeps c.file_redirect.ensures.handle c.give_up.ensures.life

pub returns-in-Ok-Some-clause-store : goal.returns-in-Ok-Some-clause-store
returns-in-Ok-Some-clause-store g c =
    lends_on g.S.GuardedFileSystem.view g.S.GuardedFileSystem.listings g.met.S.GuardedFileSystem.fits g.met.S.GuardedFileSystem.puts_over _ _ _ c.file_redirect.ensures.lent.store c.send_away.ensures.store

pub returns-in-Ok-None-clause-store : goal.returns-in-Ok-None-clause-store
returns-in-Ok-None-clause-store g c =
    lends_on g.S.GuardedFileSystem.view g.S.GuardedFileSystem.listings g.met.S.GuardedFileSystem.fits g.met.S.GuardedFileSystem.puts_over _ _ _ c.file_redirect.ensures.lent.store c.send_file-in-Ok-None.ensures.store

pub returns-in-Err-clause-store : goal.returns-in-Err-clause-store
returns-in-Err-clause-store g c =
    lends_on g.S.GuardedFileSystem.view g.S.GuardedFileSystem.listings g.met.S.GuardedFileSystem.fits g.met.S.GuardedFileSystem.puts_over _ _ _ c.file_redirect.ensures.lent.store c.give_up.ensures.store
