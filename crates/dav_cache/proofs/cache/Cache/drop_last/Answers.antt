use Rattle.dav_cache.proofs.Paths.{folded-take}
use Rattle.dav_cache.proofs.cache.Cache.drop_last.Goals as goal

pub invariant_of-self : goal.invariant_of-self
invariant_of-self c = rw c.pop_lru-pair.ensures.entries (folded-take _ _ c.self.invariant)
