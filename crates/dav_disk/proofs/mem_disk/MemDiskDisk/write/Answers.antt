use Rattle.std.proofs.Common.{rules}
use Rattle.dav_core.specs.Allowed.{Allowed}
use Rattle.dav_disk.specs.Calls.{Known}
use Rattle.dav_disk.specs.Making.{is_spent, writing}
use Rattle.dav_disk.specs.Memory.{known_of}
use Rattle.dav_disk.proofs.Makes.{fails_noted, follows_or, noted_by}
use Rattle.dav_disk.proofs.Then.{write_leaves, writes_done, write_fails_done, write_fails, write_unless, fails_write}
use Rattle.dav_disk.proofs.mem_disk.MemDiskDisk.write.Goals as goal

pub returns-then-next-clause-done : goal.returns-then-next-clause-done
returns-then-next-clause-done c =
    let k : Known = known_of c.args.self.now.memory in
    write_fails_done k c.args.self.now.faults.met c.args.self.now.faults.asked _ c.next.new.self.met c.next.new.self.asked _ c.args.file.0 c.args.from.now
    (fails_noted c.args.self.now.faults.met c.next.new.self.met c.args.self.now.faults.asked c.next.new.self.asked _ c.next.ensures.counts (c.next.ensures.rose c.if-next.true) c.next.ensures.asked c.next.ensures.more)

pub returns-clause-done : goal.returns-clause-done
returns-clause-done c =
    let k : Known = known_of c.args.self.now.memory in
    let n : Known = known_of c.write-answer.new.self in
    writes_done k n c.args.self.now.faults.met c.args.self.now.faults.asked _ c.noted-self.result c.next.new.self.asked _ c.args.file.0 c.args.from.now c.write-answer.result
    (noted_by c.write-answer.result c.args.self.now.faults.met c.next.new.self.met c.noted-self.result c.args.self.now.faults.asked c.next.new.self.asked _ c.is_fault.result (c.next.ensures.same c.if-next.false) c.is_fault.ensures
    c.noted-self.ensures.counts c.noted-self.ensures.rose c.next.ensures.asked c.next.ensures.more)
    c.args.self.now.memory.given c.requires.some c.write-answer.ensures

pub returns-clause-schedule : goal.returns-clause-schedule
returns-clause-schedule c =
    let k : Known = known_of c.args.self.now.memory in
    let n : Known = known_of c.write-answer.new.self in
    let allowed : Allowed = writing k c.args.file.0 c.args.from.now in
    follows_or (is_spent allowed k.world) c.args.self.now _ c.write-answer.result c.next.new.self.met c.next.result c.is_fault.result (c.next.ensures.same c.if-next.false) c.if-next.false c.next.ensures.fails c.is_fault.ensures
    (write_fails k n c.args.file.0 c.args.from.now c.write-answer.result c.write-answer.ensures) (fails_write k n c.args.file.0 c.args.from.now c.write-answer.result c.write-answer.ensures) c.noted-self.ensures.once c.noted-self.ensures.same (search rules) (write_leaves k n c.args.file.0 c.args.from.now c.write-answer.result c.write-answer.ensures)

pub returns-clause-made : goal.returns-clause-made
returns-clause-made c = write_unless (known_of c.args.self.now.memory) (known_of c.write-answer.new.self) c.args.file.0 c.args.from.now c.write-answer.result c.write-answer.ensures
