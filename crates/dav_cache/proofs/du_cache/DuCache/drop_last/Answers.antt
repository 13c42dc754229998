use Rattle.dav_cache.proofs.Listings.{kept-cut}
use Rattle.dav_cache.proofs.du_cache.DuCache.drop_last.Goals as goal

pub invariant_of-self : goal.invariant_of-self
invariant_of-self c = rw c.pop_lru-pair.ensures.entries (kept-cut _ _ _ c.self.invariant)
