use Rattle.std.proofs.Common.{ap, refl}
use Rattle.dav_memory.specs.Entries.{Paths, PathCache}
use Rattle.dav_cache.proofs.PathLists.{path_promoted}
use Rattle.dav_cache.proofs.Probes.{folded-promoted}
use Rattle.dav_cache.proofs.cache.Cache.promote.Goals as goal

pub invariant_of-self : goal.invariant_of-self
invariant_of-self c =
    rw (c.promote.ensures.entries, path_promoted c.args.key.now c.self.inside.entries.entries c.no_key_stands_twice.ensures.0)
    (folded-promoted c.args.key.now c.self.inside.entries.entries c.self.invariant _ refl)

pub returns : goal.returns
returns c =
    rw (c.promote.ensures.entries, ← c.self.view_is)
    (ap (λ (l : Paths). let k : PathCache = record { entries = l; size = c.self.inside.entries.cap } in k) (path_promoted c.args.key.now c.self.inside.entries.entries c.no_key_stands_twice.ensures.0))
