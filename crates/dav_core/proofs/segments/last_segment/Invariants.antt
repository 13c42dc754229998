use Rattle.std.proofs.Common.{◌≤◌, length, drop}
use Rattle.dav_core.proofs.CutSegments.{lacks}
use Rattle.dav_core.proofs.segments.last_segment.Given as goal

abbrev pub invariant-loop-at : goal.invariant-loop-at
invariant-loop-at l = (l.at ≤ length l.text) × lacks (drop l.at l.text)

abbrev pub decreases-loop-at : goal.decreases-loop-at
decreases-loop-at l = l.at
