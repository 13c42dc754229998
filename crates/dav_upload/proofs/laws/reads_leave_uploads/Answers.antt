use Rattle.dav_upload.proofs.ReadsLeave.{keeps_leave, opened_leaves, read_leaves}
use Rattle.dav_upload.proofs.laws.reads_leave_uploads.Goals as goal

pub returns-clause-keeps : goal.returns-clause-keeps
returns-clause-keeps c = λ shown s t v w was now is keeps. keeps_leave shown s t v w was now is keeps

pub returns-clause-opens : goal.returns-clause-opens
returns-clause-opens c = λ shown s t v w was now is h keeps none of_shown. opened_leaves shown s t v w was now is h keeps none of_shown

pub returns-clause-bodies : goal.returns-clause-bodies
returns-clause-bodies c = λ shown s t v w was now is h keeps l live how same. read_leaves shown s t v w was now is h keeps l live how same
