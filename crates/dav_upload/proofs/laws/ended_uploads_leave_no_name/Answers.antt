use Rattle.dav_upload.proofs.EachStep.{leave_no_name}
use Rattle.dav_upload.proofs.laws.ended_uploads_leave_no_name.Goals as goal

pub returns : goal.returns
returns g c = leave_no_name g.S.GuardedFileSystem.view g.S.File.DavFile.view.writes c.args._credentials.now
