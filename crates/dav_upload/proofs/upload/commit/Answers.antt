use Rattle.dav_upload.proofs.Closing.{closed_then}
use Rattle.dav_upload.proofs.upload.commit.Goals as goal

pub returns-clause-stays : goal.returns-clause-stays
returns-clause-stays g c = closed_then g.S.GuardedFileSystem.view _ _ _ c.args.upload.file c.file_close.ensures c.end.ensures.stays
