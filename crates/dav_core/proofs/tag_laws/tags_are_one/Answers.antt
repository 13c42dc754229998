use Rattle.dav_core.proofs.TagLaws.{one_tag}
use Rattle.dav_core.proofs.tag_laws.tags_are_one.Goals as goal

pub returns : goal.returns
returns c = one_tag
