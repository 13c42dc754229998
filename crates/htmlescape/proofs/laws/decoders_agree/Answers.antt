use Rattle.htmlescape.proofs.Agreement.{decoders_agree as agree}
use Rattle.htmlescape.proofs.laws.decoders_agree.Goals as goal

pub returns : goal.returns
returns c = agree 1152921504606846976
