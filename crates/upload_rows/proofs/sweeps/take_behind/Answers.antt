use Rattle.dav_walks.proofs.calls.KeptOpen.{open_then}
use Rattle.upload_rows.proofs.sweeps.take_behind.Goals as goal

pub returns : goal.returns
returns g c = open_then _ _ _ c.remove_file-answer.ensures.stays.keeps c.take_each.ensures.stays.keeps
