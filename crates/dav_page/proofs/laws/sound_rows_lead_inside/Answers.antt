use Rattle.dav_page.proofs.Inside.{rows_inside}
use Rattle.dav_page.proofs.laws.sound_rows_lead_inside.Goals as goal

pub returns : goal.returns
returns c = rows_inside
