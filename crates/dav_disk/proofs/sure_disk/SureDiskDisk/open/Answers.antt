use Rattle.std.proofs.Common.{true, refl, arith}
use Rattle.dav_core.specs.Allowed.{Allowed, opening}
use Rattle.dav_disk.specs.Calls.{Known}
use Rattle.dav_disk.specs.Making.{is_spent}
use Rattle.dav_disk.specs.Memory.{known_of}
use Rattle.dav_disk.proofs.Makes.{fails_only, noted_by}
use Rattle.dav_disk.proofs.OpenDone.{open_done, open_fails, fails_open}
use Rattle.dav_disk.proofs.Room.{opens_grew, spared, unspent}
use Rattle.dav_disk.proofs.sure_disk.SureDiskDisk.open.Goals as goal

pub returns-clause-done : goal.returns-clause-done
returns-clause-done c =
    let k : Known = known_of c.args.self.now.memory in
    let n : Known = known_of c.open-answer.new.self in
    open_done k n c.args.self.now.met c.args.self.now.asked true c.noted-self.result c.saturating_add-self.result true c.args.path.now c.args.how c.open-answer.result
    (noted_by c.open-answer.result c.args.self.now.met c.args.self.now.met c.noted-self.result c.args.self.now.asked c.saturating_add-self.result true c.is_fault.result refl c.is_fault.ensures
    c.noted-self.ensures.counts c.noted-self.ensures.rose c.saturating_add-self.ensures (omega arith))
    c.args.self.now.memory.given c.open-answer.ensures

pub returns-clause-fails : goal.returns-clause-fails
returns-clause-fails c =
    let k : Known = known_of c.args.self.now.memory in
    let n : Known = known_of c.open-answer.new.self in
    let allowed : Allowed = opening k.world.tree c.args.path.now c.args.how in
    fails_only (is_spent allowed k.world) c.args.self.now _ c.open-answer.result c.is_fault.result c.is_fault.ensures
    (open_fails k n c.args.path.now c.args.how c.open-answer.result c.open-answer.ensures) (fails_open k n c.args.path.now c.args.how c.open-answer.result c.open-answer.ensures) c.noted-self.ensures.once c.noted-self.ensures.same

pub invariant_of-self : goal.invariant_of-self
invariant_of-self c =
    let k : Known = known_of c.args.self.now.memory in
    let n : Known = known_of c.open-answer.new.self in
    let allowed : Allowed = opening k.world.tree c.args.path.now c.args.how in
    record {
      spared = spared (is_spent allowed k.world) k.world n.world c.args.self.now.met c.noted-self.result c.open-answer.result c.is_fault.result c.is_fault.ensures
          (open_fails k n c.args.path.now c.args.how c.open-answer.result c.open-answer.ensures) (unspent allowed k.world) (opens_grew k n c.args.path.now c.args.how c.open-answer.result c.open-answer.ensures) c.noted-self.ensures.same c.args.self.now.spared;
    }
