use Rattle.std.proofs.Common.{rules}
use Rattle.dav_core.specs.Allowed.{Allowed, opening}
use Rattle.dav_disk.specs.Calls.{Known}
use Rattle.dav_disk.specs.Making.{is_spent}
use Rattle.dav_disk.specs.Memory.{known_of}
use Rattle.dav_disk.proofs.Makes.{fails_noted, follows_or, noted_by}
use Rattle.dav_disk.proofs.OpenDone.{open_leaves, open_done, open_fails_done, open_fails, open_unless, fails_open}
use Rattle.dav_disk.proofs.mem_disk.MemDiskDisk.open.Goals as goal

pub returns-then-next-clause-done : goal.returns-then-next-clause-done
returns-then-next-clause-done c =
    let k : Known = known_of c.args.self.now.memory in
    open_fails_done k c.args.self.now.faults.met c.args.self.now.faults.asked _ c.next.new.self.met c.next.new.self.asked _ c.args.path.now c.args.how
    (fails_noted c.args.self.now.faults.met c.next.new.self.met c.args.self.now.faults.asked c.next.new.self.asked _ c.next.ensures.counts (c.next.ensures.rose c.if-next.true) c.next.ensures.asked c.next.ensures.more)

pub returns-clause-done : goal.returns-clause-done
returns-clause-done c =
    let k : Known = known_of c.args.self.now.memory in
    let n : Known = known_of c.open-answer.new.self in
    open_done k n c.args.self.now.faults.met c.args.self.now.faults.asked _ c.noted-self.result c.next.new.self.asked _ c.args.path.now c.args.how c.open-answer.result
    (noted_by c.open-answer.result c.args.self.now.faults.met c.next.new.self.met c.noted-self.result c.args.self.now.faults.asked c.next.new.self.asked _ c.is_fault.result (c.next.ensures.same c.if-next.false) c.is_fault.ensures
    c.noted-self.ensures.counts c.noted-self.ensures.rose c.next.ensures.asked c.next.ensures.more)
    c.args.self.now.memory.given c.open-answer.ensures

pub returns-clause-schedule : goal.returns-clause-schedule
returns-clause-schedule c =
    let k : Known = known_of c.args.self.now.memory in
    let n : Known = known_of c.open-answer.new.self in
    let allowed : Allowed = opening k.world.tree c.args.path.now c.args.how in
    follows_or (is_spent allowed k.world) c.args.self.now _ c.open-answer.result c.next.new.self.met c.next.result c.is_fault.result (c.next.ensures.same c.if-next.false) c.if-next.false c.next.ensures.fails c.is_fault.ensures
    (open_fails k n c.args.path.now c.args.how c.open-answer.result c.open-answer.ensures) (fails_open k n c.args.path.now c.args.how c.open-answer.result c.open-answer.ensures) c.noted-self.ensures.once c.noted-self.ensures.same (search rules) (open_leaves k n c.args.path.now c.args.how c.open-answer.result c.open-answer.ensures)

pub returns-clause-made : goal.returns-clause-made
returns-clause-made c = open_unless (known_of c.args.self.now.memory) (known_of c.open-answer.new.self) c.args.path.now c.args.how c.open-answer.result c.open-answer.ensures
