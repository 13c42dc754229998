use Rattle.dav_serving.proofs.PurgedByTree.{purged_by_tree}
use Rattle.dav_serving.proofs.laws.purges_change_no_answer.Goals as goal

pub returns : goal.returns
returns c = purged_by_tree
