use Rattle.htmlescape.proofs.Agreement.{only}
use Rattle.htmlescape.proofs.decode.decode_chars.Goals as goal

pub returns-clause-exact : goal.returns-clause-exact
returns-clause-exact g c = only _ _ _ _ _ _ c.decode.ensures
