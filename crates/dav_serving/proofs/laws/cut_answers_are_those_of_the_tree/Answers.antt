use Rattle.dav_serving.proofs.ServedByTree.{last_by_tree}
use Rattle.dav_serving.proofs.laws.cut_answers_are_those_of_the_tree.Goals as goal

pub returns : goal.returns
returns c = last_by_tree
