use Rattle.dav_upload.proofs.EachStep.{are_whole, sweeps_unseen}
use Rattle.dav_upload.proofs.laws.uploads_are_whole.Goals as goal

pub returns-clause-steps : goal.returns-clause-steps
returns-clause-steps g c = are_whole g.S.GuardedFileSystem.view g.S.File.DavFile.view.writes c.args._credentials.now

pub returns-clause-sweeps : goal.returns-clause-sweeps
returns-clause-sweeps g c = λ test takes. sweeps_unseen g.S.GuardedFileSystem.view g.S.File.DavFile.view.writes c.args._credentials.now test takes g.S.GuardedFileSystem.listings
