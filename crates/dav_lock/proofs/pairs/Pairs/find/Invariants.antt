use Rattle.std.proofs.Common.{◌≡◌}
use Rattle.dav_lock.specs.Pairs.{value_at}
use Rattle.dav_lock.proofs.pairs.Pairs.find.Given as goal

abbrev pub invariant-loop-key : goal.invariant-loop-key
invariant-loop-key l = value_at l.name l.self ≡ value_at l.name l.key-iterator
