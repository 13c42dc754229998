use Rattle.dav_walks.proofs.calls.KeptOpen.{open_after}
use Rattle.upload_rows.proofs.sweeps.sweep_meanwhile.Goals as goal

pub returns-in-Ok : goal.returns-in-Ok
returns-in-Ok g c = open_after _ _ _ c.left_before.ensures.stays.keeps c.take_behind.ensures
