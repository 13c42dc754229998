use Rattle.dav_disk.proofs.PlainRows.{plain_more, plain_timed}
use Rattle.dav_disk.proofs.drawn.Drawn.add_file.Goals as goal

pub invariant_of-self-2 : goal.invariant_of-self-2
invariant_of-self-2 c =
    let more = plain_more c.args.self.now.rows c.push.new.self _ c.args.self.now.plain c.in_ok-push.ensures.ok (rw c.in_ok-try_clone.ensures.copy c.in_ok-try_clone.ensures.plain) in
    record { plain = rw c.set_time.ensures (plain_timed c.parent_of.result.now c.in-Some-tick.touched c.push.new.self more) }
