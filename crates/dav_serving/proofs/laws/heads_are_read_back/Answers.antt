use Rattle.dav_serving.proofs.HeadsAreRead.{begun_is_read, large_is_read, refusal_is_read, served_are_read}
use Rattle.dav_serving.proofs.laws.heads_are_read_back.Goals as goal

pub returns : goal.returns
returns c = record { served = served_are_read; begun = begun_is_read; refusal = refusal_is_read; large = large_is_read }
