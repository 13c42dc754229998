use Rattle.std.proofs.Common.{◌≡◌, drop, max}
use Rattle.dav_get.specs.Prepared.{longest}
use Rattle.dav_get.proofs.prepared.longest.Given as goal

abbrev pub invariant-loop-part : goal.invariant-loop-part
invariant-loop-part l = longest l.parts ≡ max l.most (longest (drop l.part-index l.parts))
