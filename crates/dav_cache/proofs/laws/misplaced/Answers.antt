use Rattle.dav_cache.proofs.Fitting.{misplaced_exactly}
use Rattle.dav_cache.proofs.laws.misplaced.Goals as goal

pub returns : goal.returns
returns c = misplaced_exactly
