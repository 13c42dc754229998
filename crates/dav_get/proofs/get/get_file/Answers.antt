use Rattle.dav_store.proofs.Lending.{lends_on}
use Rattle.std.proofs.Common.{◌∙◌, sym, inl}
use Rattle.dav_get.proofs.FilesLeftOpen.{held_kept}
use Rattle.dav_get.specs.Table.{asked_of}
use Rattle.dav_get.proofs.MetaAsked.{meta_line}
use Rattle.dav_get.proofs.get.get_file.Goals as goal

pub returns-then-is_file-clause-life : goal.returns-then-is_file-clause-life
returns-then-is_file-clause-life g c =
    held_kept g.S.GuardedFileSystem.view _ _ _ _ _ _ c.file_metadata.ensures.done.keeps c.file_metadata.ensures.handle c.give_file.ensures.life

pub returns-else-is_file-clause-life : goal.returns-else-is_file-clause-life
returns-else-is_file-clause-life g c =
    held_kept g.S.GuardedFileSystem.view _ _ _ _ _ _ c.file_metadata.ensures.done.keeps c.file_metadata.ensures.handle c.give_up.ensures.life

pub returns-in-Err-clause-life : goal.returns-in-Err-clause-life
returns-in-Err-clause-life g c =
    held_kept g.S.GuardedFileSystem.view _ _ _ _ _ _ c.file_metadata.ensures.done.keeps c.file_metadata.ensures.handle c.give_up-in-Err.ensures.life

pub returns-then-is_file-clause-table : goal.returns-then-is_file-clause-table
returns-then-is_file-clause-table g c =
    meta_line g.S.GuardedFileSystem.view (asked_of c.args.asked.now) _ _ _ _ _ _ _ _ (sym c.if-is_file.true ∙ c.is_file.ensures) c.in-Ok.ensures
    (record { years = g.met.S.Meta.DavMetaData.in_years c.in-Ok.meta; tag = g.met.S.Meta.DavMetaData.tag_bytes c.in-Ok.meta }) c.give_file.ensures.table

pub returns-else-is_file-clause-table : goal.returns-else-is_file-clause-table
returns-else-is_file-clause-table g c =
    meta_line g.S.GuardedFileSystem.view (asked_of c.args.asked.now) _ _ _ _ _ _ _ _ (sym c.if-is_file.false ∙ c.is_file.ensures) c.in-Ok.ensures
    (record { years = g.met.S.Meta.DavMetaData.in_years c.in-Ok.meta; tag = g.met.S.Meta.DavMetaData.tag_bytes c.in-Ok.meta }) (inl (c.give_up.ensures.closed, c.give_up.ensures.error))

pub returns-then-is_file-clause-store : goal.returns-then-is_file-clause-store
returns-then-is_file-clause-store g c =
    lends_on g.S.GuardedFileSystem.view g.S.GuardedFileSystem.listings g.met.S.GuardedFileSystem.fits g.met.S.GuardedFileSystem.puts_over _ _ _ c.file_metadata.ensures.lent.store c.give_file.ensures.store

pub returns-else-is_file-clause-store : goal.returns-else-is_file-clause-store
returns-else-is_file-clause-store g c =
    lends_on g.S.GuardedFileSystem.view g.S.GuardedFileSystem.listings g.met.S.GuardedFileSystem.fits g.met.S.GuardedFileSystem.puts_over _ _ _ c.file_metadata.ensures.lent.store c.give_up.ensures.store

pub returns-in-Err-clause-store : goal.returns-in-Err-clause-store
returns-in-Err-clause-store g c =
    lends_on g.S.GuardedFileSystem.view g.S.GuardedFileSystem.listings g.met.S.GuardedFileSystem.fits g.met.S.GuardedFileSystem.puts_over _ _ _ c.file_metadata.ensures.lent.store c.give_up-in-Err.ensures.store
