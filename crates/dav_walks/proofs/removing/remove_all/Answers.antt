use Rattle.dav_walks.proofs.steps.RemovesByTable.{dir_all, file_all}
use Rattle.dav_walks.proofs.removing.remove_all.Goals as goal

pub returns-then-not-dir-clause-removes : goal.returns-then-not-dir-clause-removes
returns-then-not-dir-clause-removes g c =
    file_all g.S.GuardedFileSystem.view g.S.GuardedFileSystem.listings c.args.credentials.now c.args.path.now c.args.dir c.args.fs.now c.remove_file.new.self c.line_of.result c.if-not-dir.true
    (c.remove_file.result, c.remove_file.ensures.done, c.line_of.ensures)

pub returns-in-Ok-clause-removes : goal.returns-in-Ok-clause-removes
returns-in-Ok-clause-removes g c =
    dir_all g.S.GuardedFileSystem.view g.S.GuardedFileSystem.listings c.args.credentials.now c.args.path.now c.args.dir c.args.fs.now c.empty_dir.new.fs c.remove_dir.new.self c.line_of-in-Ok.result
    c.if-not-dir.false c.in-Ok.ensures.removes (c.remove_dir.result, c.remove_dir.ensures.done, c.line_of-in-Ok.ensures)
