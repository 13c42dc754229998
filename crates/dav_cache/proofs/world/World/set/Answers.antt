use Rattle.dav_cache.proofs.Rising.{rise-set}
use Rattle.dav_cache.proofs.world.World.set.Goals as goal

pub invariant_of-self : goal.invariant_of-self
invariant_of-self c = rise-set c.self.inside.places.items c.args.caller c.args.place c.self.invariant c.requires.place
