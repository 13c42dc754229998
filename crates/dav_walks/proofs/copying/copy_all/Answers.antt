use Rattle.dav_walks.specs.Copying.{short}
use Rattle.dav_walks.proofs.steps.CopiesByTable.{file_all}
use Rattle.dav_walks.proofs.copying.copy_all.Goals as goal

pub returns-then-not-copied-clause-copies : goal.returns-then-not-copied-clause-copies
returns-then-not-copied-clause-copies g c =
    file_all g.S.GuardedFileSystem.view g.S.GuardedFileSystem.listings c.args.credentials.now c.args.alone (record { from = c.args.copied.from.now; to = c.args.copied.to.now; dir = c.args.copied.dir }) c.args.fs.now
    c.copy_file.new.fs c.copy_file.result c.if-not-copied.true c.copy_file.ensures.copies

pub returns-in-Err-clause-copies : goal.returns-in-Err-clause-copies
returns-in-Err-clause-copies g c = short _ _
