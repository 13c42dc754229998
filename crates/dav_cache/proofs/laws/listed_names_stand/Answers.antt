use Rattle.dav_cache.proofs.Standing.{listed_stand}
use Rattle.dav_cache.proofs.laws.listed_names_stand.Goals as goal

pub returns : goal.returns
returns c = listed_stand
