use Rattle.dav_core.proofs.CutSegments.{whole_segment, cut_segment}
use Rattle.dav_core.proofs.segments.first_segment.Goals as goal

pub returns-in-empty-clause-cut : goal.returns-in-empty-clause-cut
returns-in-empty-clause-cut c = whole_segment _ _ _ _ c.place_of.ensures.first c.split_at.ensures.front c.split_at.ensures.back c.in-empty.len_below

pub returns-in-len1-up-clause-cut : goal.returns-in-len1-up-clause-cut
returns-in-len1-up-clause-cut c = cut_segment _ _ _ _ c.place_of.ensures.first c.split_at.ensures.front c.split_at.ensures.back c.in-len1-up.len_at_least
