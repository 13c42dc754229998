use Rattle.dav_mirror.proofs.Listing.{listed}
use Rattle.dav_mirror.proofs.laws.a_still_disk_is_mirrored.Goals as goal

pub returns : goal.returns
returns c = listed
