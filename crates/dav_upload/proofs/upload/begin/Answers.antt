use Rattle.dav_upload.proofs.Closing.{opens_after}
use Rattle.dav_upload.proofs.upload.begin.Goals as goal

pub returns-in-Ok-judge_put-clause-stays : goal.returns-in-Ok-judge_put-clause-stays
returns-in-Ok-judge_put-clause-stays g c = opens_after g.S.GuardedFileSystem.view _ _ _ _ c.judge_put.ensures.stays.keeps c.judge_put.ensures.stays.loan c.open_hidden.ensures.stays
