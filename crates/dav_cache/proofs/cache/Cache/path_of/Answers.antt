use Rattle.std.proofs.Common.{Some, option_map, ap, ◌∙◌}
use Rattle.dav_memory.specs.declared.entry.PathEntry.{PathEntry}
use Rattle.dav_cache.proofs.Probes.{looked-folds}
use Rattle.dav_cache.proofs.cache.Cache.path_of.Goals as goal

pub returns-in_ok-try_clone-in-Some-clause-folds : goal.returns-in_ok-try_clone-in-Some-clause-folds
returns-in_ok-try_clone-in-Some-clause-folds c =
    looked-folds c.args.key.now _ c.self.inside.entries.entries c.self.invariant (ap Some c.in_ok-try_clone-in-Some.ensures.copy ∙ ap (option_map (λ (e : PathEntry). e.path)) c.in-Some.ensures)
