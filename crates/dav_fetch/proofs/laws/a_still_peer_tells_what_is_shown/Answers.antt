use Rattle.dav_fetch.proofs.StillTold.{still_told}
use Rattle.dav_fetch.proofs.laws.a_still_peer_tells_what_is_shown.Goals as goal

pub returns : goal.returns
returns c = still_told
