use Rattle.dav_upload.proofs.Closing.{stays_after}
use Rattle.dav_upload.proofs.upload.end.Goals as goal

pub returns-in-Ok-clause-stays : goal.returns-in-Ok-clause-stays
returns-in-Ok-clause-stays g c = stays_after g.S.GuardedFileSystem.view _ _ _ c.judge_put.ensures.stays.keeps c.judge_put.ensures.stays.loan c.move_hidden.ensures.stays
