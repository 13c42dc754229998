use Rattle.dav_core.proofs.TagLaws.{tag_sound, tag_complete}
use Rattle.dav_core.proofs.tag_laws.tags_are_read.Goals as goal

pub returns : goal.returns
returns c = λ text tag. (tag_sound text tag, tag_complete text tag)
