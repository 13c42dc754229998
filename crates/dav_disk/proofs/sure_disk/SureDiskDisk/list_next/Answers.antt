use Rattle.std.proofs.Common.{true, arith}
use Rattle.dav_disk.specs.Memory.{known_of}
use Rattle.dav_disk.proofs.DoneListings.{next_done}
use Rattle.dav_disk.proofs.sure_disk.SureDiskDisk.list_next.Goals as goal

pub returns-in-Ok-clause-done : goal.returns-in-Ok-clause-done
returns-in-Ok-clause-done c = next_done (known_of c.args.self.now.memory) (known_of c.list_next.new.self) c.args.self.now.met c.args.self.now.asked true c.args.self.now.met _ true c.args.at.0 c.in-Ok.found
    (record { rises = omega arith; counts = c.saturating_add-self.ensures; goes = omega arith; keeps = λ whole. whole }) c.in-Ok.ensures.next c.in-Ok.ensures.plain
