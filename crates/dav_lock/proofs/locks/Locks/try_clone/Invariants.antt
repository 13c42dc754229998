use Rattle.std.proofs.Common.{◌≡◌, take}
use Rattle.dav_lock.proofs.locks.Locks.try_clone.Given as goal

abbrev pub invariant-loop-lock : goal.invariant-loop-lock
invariant-loop-lock l = l.locks.items ≡ take l.lock-index l.lock-items
