use Rattle.std.proofs.Common.{refl, subst, OnOk}
use Rattle.dav_memory.specs.Memory.{OwnedState, Inserts, memory_of}
use Rattle.dav_cache.proofs.MemoryCalls.{on_ok, owned_inserts}
use Rattle.dav_cache.proofs.owned.OwnedRemember.insert.Goals as goal

pub returns-clause-done : goal.returns-clause-done
returns-clause-done c =
    let old : OwnedState = record { paths = c.self.inside.paths; dots = c.self.inside.dots } in
    let new : OwnedState = record { paths = c.insert.new.self; dots = c.self.inside.dots } in
    subst (λ (o : OwnedState). OnOk c.insert.result (Inserts (memory_of o) c.args.path.now c.args.now (memory_of new))) c.self.view_is
    (on_ok c.insert.result _ _ (λ is. owned_inserts old new c.args.path.now c.args.now is refl) c.insert.ensures.ok)
