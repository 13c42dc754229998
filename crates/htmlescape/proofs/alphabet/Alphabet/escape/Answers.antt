use Rattle.std.proofs.Common.{None}
use Rattle.htmlescape.specs.Escapes.{escaped}
use Rattle.htmlescape.proofs.Escaping.{entity_is}
use Rattle.htmlescape.proofs.alphabet.Alphabet.escape.Goals as goal

pub returns-in-Some : goal.returns-in-Some
unfolding escaped
returns-in-Some c = entity_is None _ _ _ c.in-Some.ensures

pub returns-in-None : goal.returns-in-None
unfolding escaped
returns-in-None c = let e = c.in-None.ensures in rw (← e) c.number.ensures
