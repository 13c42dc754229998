use Rattle.std.proofs.Common.{refl, rules}
use Rattle.dav_core.specs.Allowed.{Allowed}
use Rattle.dav_disk.specs.Calls.{Known}
use Rattle.dav_disk.specs.Making.{allows, is_spent}
use Rattle.dav_disk.specs.Memory.{known_of}
use Rattle.dav_disk.proofs.Judges.{performed, failed_by}
use Rattle.dav_disk.proofs.Makes.{makes_leaves, makes_unless, fails_noted, fails_spent, follows_or, noted_by, spent_fails}
use Rattle.dav_disk.proofs.mem_disk.MemDisk.perform.Goals as goal

pub returns-then-next-clause-done : goal.returns-then-next-clause-done
returns-then-next-clause-done c =
    failed_by c.args.call (known_of c.args.self.now.memory) c.args.self.now.faults.met c.args.self.now.faults.asked _ c.next.new.self.met c.next.new.self.asked _
    (fails_noted c.args.self.now.faults.met c.next.new.self.met c.args.self.now.faults.asked c.next.new.self.asked _ c.next.ensures.counts (c.next.ensures.rose c.if-next.true) c.next.ensures.asked c.next.ensures.more)

pub returns-clause-done : goal.returns-clause-done
returns-clause-done c =
    let k : Known = known_of c.args.self.now.memory in
    let n : Known = known_of c.perform-answer.new.self in
    performed c.args.call k n c.args.self.now.faults.met c.args.self.now.faults.asked _ c.noted-self.result c.next.new.self.asked _ c.perform-answer.result
    (noted_by c.perform-answer.result c.args.self.now.faults.met c.next.new.self.met c.noted-self.result c.args.self.now.faults.asked c.next.new.self.asked _ c.is_fault.result (c.next.ensures.same c.if-next.false) c.is_fault.ensures
    c.noted-self.ensures.counts c.noted-self.ensures.rose c.next.ensures.asked c.next.ensures.more)
    c.args.self.now.memory.given c.perform-answer.ensures

pub returns-clause-made : goal.returns-clause-made
returns-clause-made c =
    let k : Known = known_of c.args.self.now.memory in
    let n : Known = known_of c.perform-answer.new.self in
    let allowed : Allowed = allows c.args.call k.world in
    record {
      schedule = follows_or (is_spent allowed k.world) c.args.self.now _ c.perform-answer.result c.next.new.self.met c.next.result c.is_fault.result (c.next.ensures.same c.if-next.false) c.if-next.false c.next.ensures.fails c.is_fault.ensures
          (fails_spent allowed k n c.perform-answer.result c.perform-answer.ensures) (spent_fails allowed k n c.perform-answer.result c.perform-answer.ensures) c.noted-self.ensures.once c.noted-self.ensures.same (search rules) (makes_leaves allowed k n c.perform-answer.result c.perform-answer.ensures);
      made = makes_unless allowed k n c.perform-answer.result c.perform-answer.ensures;
      lens = refl;
      listings = refl;
    }
