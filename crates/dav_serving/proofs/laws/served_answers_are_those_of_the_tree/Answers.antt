use Rattle.dav_serving.proofs.ServedByTree.{served_by_tree}
use Rattle.dav_serving.proofs.laws.served_answers_are_those_of_the_tree.Goals as goal

pub returns : goal.returns
returns c = served_by_tree
