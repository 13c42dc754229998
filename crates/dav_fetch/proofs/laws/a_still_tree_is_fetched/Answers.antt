use Rattle.dav_fetch.proofs.Reached.{reached}
use Rattle.dav_fetch.proofs.laws.a_still_tree_is_fetched.Goals as goal

pub returns : goal.returns
returns c = reached
