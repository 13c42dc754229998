use Rattle.dav_fetch.proofs.Soundness.{fetched_sound}
use Rattle.dav_fetch.proofs.laws.a_fetched_copy_is_sound.Goals as goal

pub returns : goal.returns
returns c = fetched_sound
