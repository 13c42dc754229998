use Rattle.std.proofs.Common.{true, arith}
use Rattle.dav_disk.specs.Memory.{known_of}
use Rattle.dav_disk.proofs.DoneListings.{list_done, list_order}
use Rattle.dav_disk.proofs.sure_disk.SureDiskDisk.list.Goals as goal

pub returns-clause-done : goal.returns-clause-done
returns-clause-done c = list_done (known_of c.args.self.now.memory) (known_of c.list.new.self) c.args.self.now.met c.args.self.now.asked true c.args.self.now.met _ true c.args.path.now c.list.result
    (record { rises = omega arith; counts = c.saturating_add-self.ensures; goes = omega arith; keeps = λ whole. whole }) c.list.ensures

pub returns-clause-order : goal.returns-clause-order
returns-clause-order c = list_order (known_of c.args.self.now.memory) (known_of c.list.new.self) c.args.path.now c.list.result c.list.ensures
