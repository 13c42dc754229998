use Rattle.std.proofs.Common.{true, false, arith}
use Rattle.dav_disk.specs.Memory.{known_of}
use Rattle.dav_disk.proofs.Done.{meta_done}
use Rattle.dav_disk.proofs.sure_disk.SureDisk.look.Goals as goal

pub returns-clause-done : goal.returns-clause-done
returns-clause-done c = meta_done true (known_of c.args.self.now.memory) c.args.self.now.met c.args.self.now.asked true c.args.self.now.met _ true c.args.path.now c.meta.result
    (record { rises = omega arith; counts = c.saturating_add-self.ensures; goes = omega arith; keeps = λ whole. whole }) c.meta.ensures.found

pub returns-clause-link : goal.returns-clause-link
returns-clause-link c = meta_done false (known_of c.args.self.now.memory) c.args.self.now.met c.args.self.now.asked true c.args.self.now.met _ true c.args.path.now c.meta.result
    (record { rises = omega arith; counts = c.saturating_add-self.ensures; goes = omega arith; keeps = λ whole. whole }) c.meta.ensures.found
