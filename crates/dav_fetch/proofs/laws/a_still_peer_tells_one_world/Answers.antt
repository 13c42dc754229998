use Rattle.dav_fetch.proofs.StillClear.{fetched_clear}
use Rattle.dav_fetch.proofs.laws.a_still_peer_tells_one_world.Goals as goal

pub returns : goal.returns
returns c = fetched_clear
