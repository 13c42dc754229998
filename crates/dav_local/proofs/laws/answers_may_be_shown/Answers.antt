use Rattle.dav_local.proofs.Allowed.{listed_here, looked_here, may_show, opened_here}
use Rattle.dav_local.proofs.laws.answers_may_be_shown.Goals as goal

pub returns : goal.returns
returns c = record { may = may_show; looked = looked_here; opened = opened_here; listed = listed_here }
