use Rattle.std.proofs.Common.{ap}
use Rattle.dav_memory.specs.Entries.{Paths, PathCache}
use Rattle.dav_cache.proofs.PathLists.{path_removed}
use Rattle.dav_cache.proofs.Paths.{folded-without}
use Rattle.dav_memory.specs.Trees.{same_path}
use Rattle.dav_cache.proofs.cache.Cache.remove.Goals as goal

pub invariant_of-self : goal.invariant_of-self
invariant_of-self c =
    rw (c.pop-entry.ensures.entries, path_removed c.args.key.now c.self.inside.entries.entries c.no_key_stands_twice.ensures.0)
    (folded-without (same_path c.args.key.now) c.self.inside.entries.entries c.self.invariant)

pub returns : goal.returns
returns c =
    rw (c.pop-entry.ensures.entries, ← c.self.view_is)
    (ap (λ (l : Paths). let k : PathCache = record { entries = l; size = c.self.inside.entries.cap } in k) (path_removed c.args.key.now c.self.inside.entries.entries c.no_key_stands_twice.ensures.0))
