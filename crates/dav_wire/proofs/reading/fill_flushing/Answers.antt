use Rattle.dav_wire.proofs.Waiting.{fills_then, sends_before}
use Rattle.dav_wire.proofs.reading.fill_flushing.Goals as goal

pub returns-clause-fills : goal.returns-clause-fills
returns-clause-fills g c = fills_then _ _ _ _ _ c.fill_after.ensures.fills

pub returns-clause-sends : goal.returns-clause-sends
returns-clause-sends g c = sends_before _ _ _ _ _ _ _ _ _ c.fill_after.ensures.fills c.in-Ok.ensures.pushes
