use Rattle.dav_core.proofs.Kept.{kept_behind}
use Rattle.dav_core.proofs.laws.segments_are_kept.Goals as goal

pub returns : goal.returns
returns c = kept_behind
