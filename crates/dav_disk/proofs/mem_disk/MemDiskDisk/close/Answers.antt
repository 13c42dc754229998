use Rattle.dav_disk.specs.Memory.{known_of}
use Rattle.dav_disk.proofs.Done.{close_done}
use Rattle.dav_disk.proofs.mem_disk.MemDiskDisk.close.Goals as goal

pub returns-clause-done : goal.returns-clause-done
returns-clause-done c = close_done (known_of c.args.self.now.memory) (known_of c.close.new.self) _ _ _ _ c.args.file.0 (λ whole. whole) c.close.ensures
