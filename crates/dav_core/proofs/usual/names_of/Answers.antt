use Rattle.dav_core.specs.Grammar as grammar
use Rattle.dav_core.proofs.Kept.{said_plain}
use Rattle.dav_core.proofs.usual.names_of.Goals as goal

pub returns-in-Some-clause-plain : goal.returns-in-Some-clause-plain
returns-in-Some-clause-plain c = said_plain (grammar.segments c.args.text.now) _ c.in-Some.ensures
