use Rattle.dav_disk.proofs.PlainRows.{plain_timed}
use Rattle.dav_disk.proofs.drawn.Drawn.touch.Goals as goal

pub invariant_of-self : goal.invariant_of-self
invariant_of-self c = record { plain = rw c.set_time.ensures (plain_timed c.parent_of.result.now c.args.time c.args.self.now.rows c.args.self.now.plain) }
