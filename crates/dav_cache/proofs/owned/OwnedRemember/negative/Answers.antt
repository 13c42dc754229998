use Rattle.std.proofs.Common.{refl, subst, IfOk}
use Rattle.dav_memory.specs.Memory.{OwnedState, Negates, memory_of}
use Rattle.dav_cache.proofs.MemoryCalls.{if_ok, owned_negates}
use Rattle.dav_cache.proofs.owned.OwnedRemember.negative.Goals as goal

pub returns-clause-done : goal.returns-clause-done
returns-clause-done g c =
    let old : OwnedState = record { paths = c.self.inside.paths; dots = c.self.inside.dots } in
    let new : OwnedState = record { paths = c.self.inside.paths; dots = c.negative.new.self } in
    subst (λ (o : OwnedState). IfOk c.negative.result (λ absent. Negates (memory_of o) c.args.dir.now c.args.name.now (g.D.Disk.state c.args.disk.now) absent (memory_of new) (g.D.Disk.state c.negative.new.disk))) c.self.view_is
    (if_ok c.negative.result _ _ (λ absent denies. owned_negates old new c.args.dir.now c.args.name.now (g.D.Disk.state c.args.disk.now) absent (g.D.Disk.state c.negative.new.disk) denies refl) c.negative.ensures.denied)
