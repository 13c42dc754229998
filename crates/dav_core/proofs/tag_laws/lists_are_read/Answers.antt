use Rattle.dav_core.proofs.TagLaws.{list_sound, list_complete}
use Rattle.dav_core.proofs.tag_laws.lists_are_read.Goals as goal

pub returns : goal.returns
returns c = λ text list. (list_sound text list, list_complete text list)
