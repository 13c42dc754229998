use Rattle.dav_upload.proofs.EachStep.{leave_others, sweeps_leave}
use Rattle.dav_upload_laws.proofs.local_uploads_leave_others.Goals as goal

pub returns-clause-steps : goal.returns-clause-steps
returns-clause-steps g c = leave_others _ _ tt _ c.local_stores_take_uploads.ensures.takes

pub returns-clause-sweeps : goal.returns-clause-sweeps
returns-clause-sweeps g c = sweeps_leave _ _ tt _ c.local_stores_take_uploads.ensures.takes _ c.local_stores_take_uploads.ensures.reads
