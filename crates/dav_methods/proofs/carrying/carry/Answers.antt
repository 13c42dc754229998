use Rattle.dav_store.proofs.Staying.{stays_after}
use Rattle.dav_methods.proofs.tables.BehindLooks.{carries, leaves}
use Rattle.dav_methods.proofs.carrying.carry.Goals as goal

pub returns-in-Ok-pass_apart-clause-table : goal.returns-in-Ok-pass_apart-clause-table
returns-in-Ok-pass_apart-clause-table g c = rw c.in-Ok.is (
    carries g.S.GuardedFileSystem.view g.S.GuardedFileSystem.listings c.args.credentials.now c.args.path.now c.args.fields.now
    c.in-Ok.asked c.folds-folds.result (g.S.Meta.DavMetaData.info c.in-Ok-metadata.meta) c.args.fs.now c.metadata.new.self c.leave.new.fs c.leave.result c.folds-folds.ensures c.in-Ok-metadata.ensures.done
    c.in-Ok-pass_apart.ensures (leaves g.S.GuardedFileSystem.view g.S.GuardedFileSystem.listings c.args.credentials.now c.args.path.now c.args.fields.now
    c.in-Ok.asked (g.S.Meta.DavMetaData.info c.in-Ok-metadata.meta) c.method_of.result c.is_dir-dir.result c.pass_met-may.result c.metadata.new.self c.leave.new.fs c.leave.result
    c.method_of.ensures c.is_dir-dir.ensures c.pass_met-may.ensures c.leave.ensures.table))

pub returns-in-Ok-pass_apart-clause-stays : goal.returns-in-Ok-pass_apart-clause-stays
returns-in-Ok-pass_apart-clause-stays g c = stays_after _ _ _ _ c.metadata.ensures.stays c.leave.ensures.stays
