use Rattle.std.proofs.Common.{true, refl, arith}
use Rattle.dav_core.specs.Allowed.{Allowed}
use Rattle.dav_disk.specs.Calls.{Known}
use Rattle.dav_disk.specs.Making.{allows, is_spent}
use Rattle.dav_disk.specs.Memory.{known_of}
use Rattle.dav_disk.proofs.Judges.{performed}
use Rattle.dav_disk.proofs.Makes.{fails_spent, fails_only, noted_by, spent_fails}
use Rattle.dav_disk.proofs.Room.{makes_grew, spared, unspent}
use Rattle.dav_disk.proofs.sure_disk.SureDisk.perform.Goals as goal

pub returns-clause-done : goal.returns-clause-done
returns-clause-done c =
    let k : Known = known_of c.args.self.now.memory in
    let n : Known = known_of c.perform-answer.new.self in
    performed c.args.call k n c.args.self.now.met c.args.self.now.asked true c.noted-self.result c.saturating_add-self.result true c.perform-answer.result
    (noted_by c.perform-answer.result c.args.self.now.met c.args.self.now.met c.noted-self.result c.args.self.now.asked c.saturating_add-self.result true c.is_fault.result refl c.is_fault.ensures
    c.noted-self.ensures.counts c.noted-self.ensures.rose c.saturating_add-self.ensures (omega arith))
    c.args.self.now.memory.given c.perform-answer.ensures

pub returns-clause-made : goal.returns-clause-made
returns-clause-made c =
    let k : Known = known_of c.args.self.now.memory in
    let n : Known = known_of c.perform-answer.new.self in
    let allowed : Allowed = allows c.args.call k.world in
    record {
      fails = fails_only (is_spent allowed k.world) c.args.self.now _ c.perform-answer.result c.is_fault.result c.is_fault.ensures
          (fails_spent allowed k n c.perform-answer.result c.perform-answer.ensures) (spent_fails allowed k n c.perform-answer.result c.perform-answer.ensures) c.noted-self.ensures.once c.noted-self.ensures.same;
      made = c.perform-answer.ensures;
      listings = refl;
    }

pub invariant_of-self : goal.invariant_of-self
invariant_of-self c =
    let k : Known = known_of c.args.self.now.memory in
    let n : Known = known_of c.perform-answer.new.self in
    let allowed : Allowed = allows c.args.call k.world in
    record {
      spared = spared (is_spent allowed k.world) k.world n.world c.args.self.now.met c.noted-self.result c.perform-answer.result c.is_fault.result c.is_fault.ensures
          (fails_spent allowed k n c.perform-answer.result c.perform-answer.ensures) (unspent allowed k.world) (makes_grew allowed k n c.perform-answer.result c.perform-answer.ensures) c.noted-self.ensures.same c.args.self.now.spared;
    }
