use Rattle.dav_readcache.proofs.Told.{local_files_told}
use Rattle.dav_readcache.proofs.laws.local_files_are_told.Goals as goal

pub returns : goal.returns
returns c = local_files_told
