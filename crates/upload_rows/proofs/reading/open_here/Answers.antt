use Rattle.upload_rows.proofs.SlotsGo.{goes_opened}
use Rattle.upload_rows.proofs.reading.open_here.Goals as goal

pub returns-in-Ok : goal.returns-in-Ok
returns-in-Ok g c = goes_opened _ _ _ _ _ c.in-Ok.ensures.stays.keeps
