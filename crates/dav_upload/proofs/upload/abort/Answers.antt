use Rattle.dav_upload.proofs.Closing.{closed_then}
use Rattle.dav_upload.proofs.upload.abort.Goals as goal

pub returns-in-Ok-clause-stays : goal.returns-in-Ok-clause-stays
returns-in-Ok-clause-stays g c = closed_then g.S.GuardedFileSystem.view _ _ _ c.args.upload.file c.file_close.ensures c.remove_file.ensures.stays

pub returns-clause-stays : goal.returns-clause-stays
returns-clause-stays g c = closed_then g.S.GuardedFileSystem.view _ _ _ c.args.upload.file c.file_close.ensures c.remove_file.ensures.stays
