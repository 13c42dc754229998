use Rattle.dav_wire.proofs.Pushing.{fails, flushes_puts}
use Rattle.dav_wire.proofs.output.Output.push.Goals as goal

pub returns-then-bytes-ge-LONG : goal.returns-then-bytes-ge-LONG
returns-then-bytes-ge-LONG g c = flushes_puts _ _ _ _ _ _ _ c.in-Ok.ensures.pushes c.in-Ok.ensures.emptied c.put_all.ensures

pub returns-in-Err : goal.returns-in-Err
returns-in-Err g c = fails _ _ _ _ _ _ c.in-Err.ensures.pushes
