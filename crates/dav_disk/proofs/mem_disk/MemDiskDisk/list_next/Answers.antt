use Rattle.dav_disk.specs.Memory.{known_of}
use Rattle.dav_disk.proofs.DoneListings.{next_done}
use Rattle.dav_disk.proofs.mem_disk.MemDiskDisk.list_next.Goals as goal

pub returns-in-Ok-clause-done : goal.returns-in-Ok-clause-done
returns-in-Ok-clause-done c = next_done (known_of c.args.self.now.memory) (known_of c.list_next.new.self) _ _ _ _ _ _ c.args.at.0 c.in-Ok.found
    (record { rises = c.next.ensures.counts; counts = c.next.ensures.asked; goes = c.next.ensures.more; keeps = λ whole. whole }) c.in-Ok.ensures.next c.in-Ok.ensures.plain
