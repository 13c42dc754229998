use Rattle.std.proofs.Common.{arith}
use Rattle.dav_core.proofs.CutSegments.{last_behind_slash, no_slash}
use Rattle.dav_core.proofs.segments.last_segment.Goals as goal

pub returns-then-text-at-eq47 : goal.returns-then-text-at-eq47
returns-then-text-at-eq47 c = last_behind_slash c.args.text.now c.split_at.result.1.now c.loop-at.at c.loop-at-test.true c.loop-at.invariant.0 c.if-text-at-eq47.true c.loop-at.invariant.1 c.split_at.ensures.back

pub returns : goal.returns
returns c = no_slash c.args.text.now c.loop-at.at (omega arith) c.loop-at.invariant.1
