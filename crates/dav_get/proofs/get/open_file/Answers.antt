use Rattle.dav_store.specs.Leads.{lends, none}
use Rattle.dav_store.proofs.Leading.{opens_by}
use Rattle.dav_get.proofs.FilesLeftOpen.{life_world, opened_before}
use Rattle.dav_get.proofs.get.open_file.Goals as goal

pub returns-in-Ok-clause-life : goal.returns-in-Ok-clause-life
returns-in-Ok-clause-life g c =
    opened_before g.S.GuardedFileSystem.view _ _ _ _ _ _ c.read.ensures c.in-Ok.ensures.stays.keeps c.get_file.ensures.life

pub returns-in-Ok-clause-leads : goal.returns-in-Ok-clause-leads
returns-in-Ok-clause-leads g c =
    lends _ _
    (opens_by g.S.GuardedFileSystem.view g.S.GuardedFileSystem.listings c.args.credentials.now _ _ _ _ _ _ c.read.ensures none
    c.in-Ok.ensures.done c.in-Ok.ensures.stays.keeps)
    c.get_file.ensures.store
    (life_world g.S.GuardedFileSystem.view _ _ _ _ c.get_file.ensures.life)

pub returns-in-Err-clause-leads : goal.returns-in-Err-clause-leads
returns-in-Err-clause-leads g c =
    opens_by g.S.GuardedFileSystem.view g.S.GuardedFileSystem.listings c.args.credentials.now _ _ _ _ _ _ c.read.ensures none c.in-Err.ensures.done c.in-Err.ensures.stays.keeps
