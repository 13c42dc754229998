use Rattle.dav_upload.proofs.EachStep.{sweeps_before_leave, sweeps_before_unseen}
use Rattle.dav_upload.proofs.laws.sweeps_before_leave_others.Goals as goal

pub returns-clause-unseen : goal.returns-clause-unseen
returns-clause-unseen g c = λ test takes. sweeps_before_unseen g.S.GuardedFileSystem.view g.S.File.DavFile.view.writes c.args._credentials.now test takes g.S.GuardedFileSystem.listings

pub returns-clause-others : goal.returns-clause-others
returns-clause-others g c = λ test takes. sweeps_before_leave g.S.GuardedFileSystem.view g.S.File.DavFile.view.writes c.args._credentials.now test takes g.S.GuardedFileSystem.listings
