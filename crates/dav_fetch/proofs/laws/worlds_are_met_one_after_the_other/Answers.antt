use Rattle.dav_fetch.proofs.Turned.{fetched_turned}
use Rattle.dav_fetch.proofs.laws.worlds_are_met_one_after_the_other.Goals as goal

pub returns : goal.returns
returns c = fetched_turned
