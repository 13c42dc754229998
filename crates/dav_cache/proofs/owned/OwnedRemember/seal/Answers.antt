use Rattle.std.proofs.Common.{refl, subst}
use Rattle.dav_memory.specs.Memory.{OwnedState, SealsIn, memory_of}
use Rattle.dav_cache.proofs.MemoryCalls.{owned_seals}
use Rattle.dav_cache.proofs.owned.OwnedRemember.seal.Goals as goal

pub returns : goal.returns
returns c =
    let old : OwnedState = record { paths = c.self.inside.paths; dots = c.self.inside.dots } in
    let new : OwnedState = record { paths = c.self.inside.paths; dots = c.seal.new.self } in
    record {
      done = subst (λ (o : OwnedState). SealsIn (memory_of o) c.args.dir.now c.args.time c.args.names.now c.args.now c.seal.result (memory_of new)) c.self.view_is
          (owned_seals old new c.args.dir.now c.args.time c.args.names.now c.args.now c.seal.result c.are_counted.ensures.counted c.seal.ensures refl);
    }
