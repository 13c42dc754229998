use Rattle.dav_model.proofs.Denied.{each_by_tree}
use Rattle.dav_model.proofs.laws.each_reply_is_that_of_the_tree.Goals as goal

pub returns : goal.returns
returns c = each_by_tree
