use Rattle.std.proofs.Common.{true}
use Rattle.dav_methods.proofs.tables.BehindLooks.{copy_moves}
use Rattle.dav_methods.proofs.carrying.move_to.Goals as goal

pub returns-clause-table : goal.returns-clause-table
returns-clause-table g c =
    copy_moves g.S.GuardedFileSystem.view g.S.GuardedFileSystem.listings c.args.credentials.now c.args.path.now c.args.fields.now
    true c.args.prefix.now c.asked-said.result c.args.fs.now c.carry.new.fs c.carry.result c.asked-said.ensures c.carry.ensures.table
