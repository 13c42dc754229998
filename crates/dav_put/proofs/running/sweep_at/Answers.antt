use Rattle.std.proofs.Common.{refl}
use Rattle.dav_upload.proofs.SweepsBefore.{before_unseen}
use Rattle.dav_put.proofs.running.sweep_at.Goals as goal

pub returns-in-Ok-clause-table : goal.returns-in-Ok-clause-table
returns-in-Ok-clause-table g c = (_, c.in-Ok.ensures.table, refl)

pub returns-in-Err-clause-table : goal.returns-in-Err-clause-table
returns-in-Err-clause-table g c = (_, c.in-Err.ensures.table, c.ended_by.ensures)

pub returns-in-Ok-clause-unseen : goal.returns-in-Ok-clause-unseen
returns-in-Ok-clause-unseen g c = λ test takes leads plain v w was now clear.
    before_unseen g.S.GuardedFileSystem.view g.S.File.DavFile.view.writes c.args.credentials.now test takes g.S.GuardedFileSystem.listings leads c.args.dir.now c.args.limit _ _ v w _ was now plain clear
    c.sweep_before.ensures.table

pub returns-in-Err-clause-unseen : goal.returns-in-Err-clause-unseen
returns-in-Err-clause-unseen g c = λ test takes leads plain v w was now clear.
    before_unseen g.S.GuardedFileSystem.view g.S.File.DavFile.view.writes c.args.credentials.now test takes g.S.GuardedFileSystem.listings leads c.args.dir.now c.args.limit _ _ v w _ was now plain clear
    c.sweep_before.ensures.table
