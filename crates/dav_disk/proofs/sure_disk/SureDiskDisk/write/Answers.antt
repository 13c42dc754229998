use Rattle.std.proofs.Common.{true, refl, arith}
use Rattle.dav_core.specs.Allowed.{Allowed}
use Rattle.dav_disk.specs.Calls.{Known}
use Rattle.dav_disk.specs.Making.{is_spent, writing}
use Rattle.dav_disk.specs.Memory.{known_of}
use Rattle.dav_disk.proofs.Makes.{fails_only, noted_by}
use Rattle.dav_disk.proofs.Then.{writes_done, write_fails, fails_write}
use Rattle.dav_disk.proofs.Room.{writes_grew, spared, unspent}
use Rattle.dav_disk.proofs.sure_disk.SureDiskDisk.write.Goals as goal

pub returns-clause-done : goal.returns-clause-done
returns-clause-done c =
    let k : Known = known_of c.args.self.now.memory in
    let n : Known = known_of c.write-answer.new.self in
    writes_done k n c.args.self.now.met c.args.self.now.asked true c.noted-self.result c.saturating_add-self.result true c.args.file.0 c.args.from.now c.write-answer.result
    (noted_by c.write-answer.result c.args.self.now.met c.args.self.now.met c.noted-self.result c.args.self.now.asked c.saturating_add-self.result true c.is_fault.result refl c.is_fault.ensures
    c.noted-self.ensures.counts c.noted-self.ensures.rose c.saturating_add-self.ensures (omega arith))
    c.args.self.now.memory.given c.requires.some c.write-answer.ensures

pub returns-clause-fails : goal.returns-clause-fails
returns-clause-fails c =
    let k : Known = known_of c.args.self.now.memory in
    let n : Known = known_of c.write-answer.new.self in
    let allowed : Allowed = writing k c.args.file.0 c.args.from.now in
    fails_only (is_spent allowed k.world) c.args.self.now _ c.write-answer.result c.is_fault.result c.is_fault.ensures
    (write_fails k n c.args.file.0 c.args.from.now c.write-answer.result c.write-answer.ensures) (fails_write k n c.args.file.0 c.args.from.now c.write-answer.result c.write-answer.ensures) c.noted-self.ensures.once c.noted-self.ensures.same

pub invariant_of-self : goal.invariant_of-self
invariant_of-self c =
    let k : Known = known_of c.args.self.now.memory in
    let n : Known = known_of c.write-answer.new.self in
    let allowed : Allowed = writing k c.args.file.0 c.args.from.now in
    record {
      spared = spared (is_spent allowed k.world) k.world n.world c.args.self.now.met c.noted-self.result c.write-answer.result c.is_fault.result c.is_fault.ensures
          (write_fails k n c.args.file.0 c.args.from.now c.write-answer.result c.write-answer.ensures) (unspent allowed k.world) (writes_grew k n c.args.file.0 c.args.from.now c.write-answer.result c.write-answer.ensures) c.noted-self.ensures.same c.args.self.now.spared;
    }
