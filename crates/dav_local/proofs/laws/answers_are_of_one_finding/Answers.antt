use Rattle.dav_local.proofs.Allowed.{may_find}
use Rattle.dav_local.proofs.laws.answers_are_of_one_finding.Goals as goal

pub returns : goal.returns
returns c = may_find
