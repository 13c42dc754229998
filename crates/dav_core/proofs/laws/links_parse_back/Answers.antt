use Rattle.dav_core.proofs.Back.{parsed_back}
use Rattle.dav_core.proofs.laws.links_parse_back.Goals as goal

pub returns : goal.returns
returns c = parsed_back
