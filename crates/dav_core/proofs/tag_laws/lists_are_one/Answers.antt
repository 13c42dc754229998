use Rattle.dav_core.proofs.TagLaws.{one_list}
use Rattle.dav_core.proofs.tag_laws.lists_are_one.Goals as goal

pub returns : goal.returns
returns c = one_list
