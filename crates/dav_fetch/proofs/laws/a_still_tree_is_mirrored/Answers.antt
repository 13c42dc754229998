use Rattle.dav_fetch.proofs.Mirrored.{mirrored}
use Rattle.dav_fetch.proofs.laws.a_still_tree_is_mirrored.Goals as goal

pub returns : goal.returns
returns c = mirrored
