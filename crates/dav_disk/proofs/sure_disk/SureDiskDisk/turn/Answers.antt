use Rattle.dav_disk.specs.Calls.{Known}
use Rattle.dav_disk.specs.Memory.{known_of}
use Rattle.dav_disk.proofs.Room.{spared_still, turn_grew}
use Rattle.dav_disk.proofs.sure_disk.SureDiskDisk.turn.Goals as goal

pub invariant_of-self : goal.invariant_of-self
invariant_of-self c =
    let k : Known = known_of c.args.self.now.memory in
    let n : Known = known_of c.turn.new.self in
    record { spared = spared_still k.world n.world c.args.self.now.met (turn_grew k n c.turn.result c.turn.ensures.ok c.turn.ensures.err) c.args.self.now.spared }
