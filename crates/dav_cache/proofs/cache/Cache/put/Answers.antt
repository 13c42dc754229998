use Rattle.std.proofs.Common.{ap}
use Rattle.dav_memory.specs.Entries.{Paths, PathCache}
use Rattle.dav_cache.proofs.PathLists.{path_put, folded-put}
use Rattle.dav_cache.proofs.cache.Cache.put.Goals as goal

pub invariant_of-self-2 : goal.invariant_of-self-2
invariant_of-self-2 c =
    rw (c.in_ok-put.ensures.entries, path_put c.args.key c.self.inside.entries.entries c.no_key_stands_twice.ensures.0 c.args.entry c.self.inside.entries.cap c.no_key_stands_twice.ensures.1)
    (folded-put c.self.inside.entries.cap c.args.key c.args.entry c.self.inside.entries.entries c.requires c.self.invariant)

pub returns-clause-ok : goal.returns-clause-ok
returns-clause-ok c =
    rw (c.in_ok-put.ensures.entries, ← c.self.view_is)
    (ap (λ (l : Paths). let k : PathCache = record { entries = l; size = c.self.inside.entries.cap } in k)
    (path_put c.args.key c.self.inside.entries.entries c.no_key_stands_twice.ensures.0 c.args.entry c.self.inside.entries.cap c.no_key_stands_twice.ensures.1))
