use Rattle.std.proofs.Common.{sym, ap}
use Rattle.dav_wire.specs.Answers.{phrase, status_line}
use Rattle.dav_wire.proofs.answers.usual_line.Goals as goal

pub returns-in-200 : goal.returns-in-200
unfolding phrase
returns-in-200 c = ap status_line (sym c.in-200.is)

pub returns-in-206 : goal.returns-in-206
unfolding phrase
returns-in-206 c = ap status_line (sym c.in-206.is)

pub returns-in-304 : goal.returns-in-304
unfolding phrase
returns-in-304 c = ap status_line (sym c.in-304.is)

pub returns-in-404 : goal.returns-in-404
unfolding phrase
returns-in-404 c = ap status_line (sym c.in-404.is)
