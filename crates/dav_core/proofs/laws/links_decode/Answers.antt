use Rattle.dav_core.proofs.Links.{link_decodes}
use Rattle.dav_core.proofs.laws.links_decode.Goals as goal

pub returns : goal.returns
returns c = link_decodes
