use Rattle.std.proofs.Common.{◌≡◌, ◌++◌}
use Rattle.dav_lock.proofs.pairs.Pairs.try_clone.Given as goal

abbrev pub invariant-loop-name : goal.invariant-loop-name
invariant-loop-name l = l.self ≡ l.copy ++ l.name-iterator
