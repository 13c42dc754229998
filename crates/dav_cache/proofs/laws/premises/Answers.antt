use Rattle.dav_cache.proofs.Premises.{no_return, can_be_met}
use Rattle.dav_cache.proofs.laws.premises.Goals as goal

pub returns : goal.returns
returns c = record { no_return = no_return; met = can_be_met }
