use Rattle.std.proofs.Common.{◌≡◌, length}
use Rattle.dav_core.specs.Blanks as blanks
use Rattle.dav_core.proofs.blanks.without_end.Given as goal

abbrev pub invariant-loop-last : goal.invariant-loop-last
invariant-loop-last l = blanks.without_end l.rest ≡ blanks.without_end l.bytes

abbrev pub decreases-loop-last : goal.decreases-loop-last
decreases-loop-last l = length l.rest
