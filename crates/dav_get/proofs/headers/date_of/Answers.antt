use Rattle.std.proofs.Common.{◌∙◌, ap, Some}
use Rattle.dav_get.proofs.headers.date_of.Goals as goal

pub returns : goal.returns
returns c = (c.in-Ok.date, c.in-Ok.ensures.value ∙ c.secs_of.ensures.secs, ap Some c.to_bytes.ensures)
