use Rattle.dav_core.proofs.IfRangeLaws.{if_range_sound, if_range_complete}
use Rattle.dav_core.proofs.tag_laws.if_ranges_are_read.Goals as goal

pub returns : goal.returns
returns c = λ text read. (if_range_sound text read, if_range_complete text read)
