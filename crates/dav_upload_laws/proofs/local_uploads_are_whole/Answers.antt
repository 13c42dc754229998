use Rattle.dav_upload.proofs.EachStep.{are_whole, sweeps_unseen}
use Rattle.dav_upload_laws.proofs.local_uploads_are_whole.Goals as goal

pub returns-clause-steps : goal.returns-clause-steps
returns-clause-steps g c = are_whole _ _ tt _ c.local_stores_take_uploads.ensures.takes

pub returns-clause-sweeps : goal.returns-clause-sweeps
returns-clause-sweeps g c = sweeps_unseen _ _ tt _ c.local_stores_take_uploads.ensures.takes _ c.local_stores_take_uploads.ensures.reads
