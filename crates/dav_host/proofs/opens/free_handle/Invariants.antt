use Rattle.std.proofs.Common.{ℕ, ◌<◌, IsSome}
use Rattle.dav_host.specs.Host.{live_at}
use Rattle.dav_host.proofs.opens.free_handle.Given as goal

-- the handles so far are live
abbrev pub invariant-loop-handle : goal.invariant-loop-handle
invariant-loop-handle g l = (handle : ℕ) → handle < l.handle-counter → IsSome (live_at l.opens handle)
