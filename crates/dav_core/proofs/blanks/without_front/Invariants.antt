use Rattle.std.proofs.Common.{◌≡◌, length}
use Rattle.dav_core.specs.Blanks as blanks
use Rattle.dav_core.proofs.blanks.without_front.Given as goal

abbrev pub invariant-loop-first : goal.invariant-loop-first
invariant-loop-first l = blanks.without_front l.rest ≡ blanks.without_front l.bytes

abbrev pub decreases-loop-first : goal.decreases-loop-first
decreases-loop-first l = length l.rest
