use Rattle.std.proofs.Common.{true}
use Rattle.dav_disk.specs.Memory.{known_of}
use Rattle.dav_disk.proofs.DoneListings.{end_done}
use Rattle.dav_disk.proofs.sure_disk.SureDiskDisk.end_list.Goals as goal

pub returns-clause-done : goal.returns-clause-done
returns-clause-done c = end_done (known_of c.args.self.now.memory) (known_of c.end_list.new.self) _ _ true true c.args.at.0 (λ whole. whole) c.end_list.ensures
