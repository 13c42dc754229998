use Rattle.dav_walks.specs.Copying.{short}
use Rattle.dav_walks.specs.Walking.{transfers_left, weight_left}
use Rattle.dav_walks.proofs.steps.CopiesByTable.{file_done, file_lighter, member_done, member_lighter}
use Rattle.dav_walks.proofs.copying.copy_member.Goals as goal

pub returns-in_default-clause-copies : goal.returns-in_default-clause-copies
returns-in_default-clause-copies g c = short _ _

pub returns-then-member-clause-copies : goal.returns-then-member-clause-copies
returns-then-member-clause-copies g c =
    member_done g.S.GuardedFileSystem.view g.S.GuardedFileSystem.listings c.args.credentials.now c.args.alone c.args.walk.now.ends c.down.new.self c.args.member.now c.args.walk.now.works.items
    (transfers_left c.copy_dir.new.walk) c.args.fs.now c.copy_dir.new.fs c.copy_dir.result c.if-member.true c.in-Ok.ensures c.copy_dir.ensures.copies

pub returns-then-member-clause-lighter : goal.returns-then-member-clause-lighter
returns-then-member-clause-lighter g c = λ ok.
    member_lighter g.S.GuardedFileSystem.view g.S.GuardedFileSystem.listings c.args.credentials.now c.args.alone c.args.walk.now.ends c.down.new.self c.args.member.now c.args.walk.now.works.items
    (weight_left c.copy_dir.new.walk) c.if-member.true c.in-Ok.ensures (c.copy_dir.ensures.lighter ok)

pub returns-clause-copies : goal.returns-clause-copies
returns-clause-copies g c =
    file_done g.S.GuardedFileSystem.view g.S.GuardedFileSystem.listings c.args.credentials.now c.args.alone c.args.walk.now.ends c.down.new.self c.up.new.self c.args.member.now c.args.walk.now.works.items c.args.fs.now
    c.copy_file-copied.new.fs c.copy_file-copied.result c.if-member.false c.in-Ok.ensures c.up.ensures c.copy_file-copied.ensures.copies

pub returns-clause-lighter : goal.returns-clause-lighter
returns-clause-lighter g c = λ ok.
    file_lighter g.S.GuardedFileSystem.view g.S.GuardedFileSystem.listings c.args.credentials.now c.args.alone c.args.walk.now.ends c.down.new.self c.up.new.self c.args.member.now c.args.walk.now.works.items
    c.if-member.false c.in-Ok.ensures c.up.ensures
