use Rattle.dav_upload.proofs.EachStep.{leave_others, sweeps_leave}
use Rattle.dav_upload.proofs.laws.uploads_leave_others.Goals as goal

pub returns-clause-steps : goal.returns-clause-steps
returns-clause-steps g c = leave_others g.S.GuardedFileSystem.view g.S.File.DavFile.view.writes c.args._credentials.now

pub returns-clause-sweeps : goal.returns-clause-sweeps
returns-clause-sweeps g c = λ test takes. sweeps_leave g.S.GuardedFileSystem.view g.S.File.DavFile.view.writes c.args._credentials.now test takes g.S.GuardedFileSystem.listings
