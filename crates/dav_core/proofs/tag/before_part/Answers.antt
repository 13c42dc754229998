use Rattle.dav_core.proofs.Hex.{other_dash, longer_otherwise}
use Rattle.dav_core.proofs.tag.before_part.Goals as goal

pub returns-in_default : goal.returns-in_default
returns-in_default c = longer_otherwise _ _ _ (c.in_default.ensures)

pub returns-else-last-eq45 : goal.returns-else-last-eq45
returns-else-last-eq45 c = other_dash _ _ _ _ _ _ c.in-Some.ensures c.in-Some-split_last.ensures.cases.0 c.if-last-eq45.false
