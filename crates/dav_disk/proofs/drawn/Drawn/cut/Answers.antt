use Rattle.dav_disk.proofs.PlainRows.{plain_timed}
use Rattle.dav_disk.proofs.drawn.Drawn.cut.Goals as goal

pub invariant_of-self-2 : goal.invariant_of-self-2
invariant_of-self-2 c = record { plain = rw c.set_time.ensures (plain_timed c.as_slice-2.result.now c.in-Some.time c.args.self.now.rows c.args.self.now.plain) }
