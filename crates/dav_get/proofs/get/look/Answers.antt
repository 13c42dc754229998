use Rattle.dav_store.specs.Leads.{looks, none}
use Rattle.dav_store.proofs.Leading.{leads_then}
use Rattle.dav_get.proofs.FilesLeftOpen.{looked_before}
use Rattle.dav_get.proofs.get.look.Goals as goal

pub returns-else-is_dir-clause-life : goal.returns-else-is_dir-clause-life
returns-else-is_dir-clause-life g c =
    looked_before g.S.GuardedFileSystem.view _ _ _ _ c.metadata.ensures.stays.keeps c.open_file.ensures.life

pub returns-then-is_dir-clause-life : goal.returns-then-is_dir-clause-life
returns-then-is_dir-clause-life g c =
    looked_before g.S.GuardedFileSystem.view _ _ _ _ c.metadata.ensures.stays.keeps c.get_dir.ensures.life

pub returns-else-is_dir-clause-leads : goal.returns-else-is_dir-clause-leads
returns-else-is_dir-clause-leads g c =
    leads_then g.S.GuardedFileSystem.view g.S.GuardedFileSystem.listings c.args.credentials.now _ _ _
    (looks _ _ _ _ none c.in-Ok.ensures.done c.in-Ok.ensures.stays.keeps.world) c.open_file.ensures.leads

pub returns-then-is_dir-clause-leads : goal.returns-then-is_dir-clause-leads
returns-then-is_dir-clause-leads g c =
    leads_then g.S.GuardedFileSystem.view g.S.GuardedFileSystem.listings c.args.credentials.now _ _ _
    (looks _ _ _ _ none c.in-Ok.ensures.done c.in-Ok.ensures.stays.keeps.world) c.get_dir.ensures.leads

pub returns-in-Err-clause-leads : goal.returns-in-Err-clause-leads
returns-in-Err-clause-leads g c = looks _ _ _ _ none c.in-Err.ensures.done c.in-Err.ensures.stays.keeps.world
