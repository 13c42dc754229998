use Rattle.std.proofs.Common.{refl, subst, IfOk}
use Rattle.dav_memory.specs.Calls.{Opening}
use Rattle.dav_memory.specs.Memory.{OwnedState, GetsOpen, memory_of}
use Rattle.dav_cache.proofs.MemoryCalls.{if_both, owned_gets}
use Rattle.dav_cache.proofs.owned.OwnedRemember.get_open.Goals as goal

pub returns-clause-done : goal.returns-clause-done
returns-clause-done g c =
    let old : OwnedState = record { paths = c.self.inside.paths; dots = c.self.inside.dots } in
    let new : OwnedState = record { paths = c.get_open.new.self; dots = c.self.inside.dots } in
    subst (λ (o : OwnedState). IfOk c.get_open.result (λ found. GetsOpen (memory_of o) c.args.path.now (g.D.Disk.state c.args.disk.now) found (memory_of new) (g.D.Disk.state c.get_open.new.disk))) c.self.view_is
    (if_both c.get_open.result _ _ _ (λ found looks folds. owned_gets Opening old new c.args.path.now (g.D.Disk.state c.args.disk.now) found (g.D.Disk.state c.get_open.new.disk) looks folds refl) c.get_open.ensures.looked c.get_open.ensures.folds)
