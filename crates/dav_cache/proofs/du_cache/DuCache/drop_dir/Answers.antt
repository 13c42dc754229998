use Rattle.dav_cache.proofs.Listings.{kept-drop}
use Rattle.dav_cache.proofs.du_cache.DuCache.drop_dir.Goals as goal

pub invariant_of-self : goal.invariant_of-self
invariant_of-self c = rw c.drop_key.ensures (kept-drop _ c.args.dir.now _ c.requires c.self.invariant)
