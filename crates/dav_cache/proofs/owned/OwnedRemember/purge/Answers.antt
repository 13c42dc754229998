use Rattle.std.proofs.Common.{subst}
use Rattle.dav_memory.specs.Memory.{OwnedState, Purges, memory_of}
use Rattle.dav_cache.proofs.MemoryCalls.{owned_purges}
use Rattle.dav_cache.proofs.owned.OwnedRemember.purge.Goals as goal

pub returns : goal.returns
returns c =
    let old : OwnedState = record { paths = c.self.inside.paths; dots = c.self.inside.dots } in
    let new : OwnedState = record { paths = c.purge.new.self; dots = c.purge-2.new.self } in
    record { done = subst (λ (o : OwnedState). Purges (memory_of o) c.args.now (memory_of new)) c.self.view_is (owned_purges old new c.args.now c.are_counted.ensures.counted c.purge.ensures c.purge-2.ensures) }
