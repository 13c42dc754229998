use Rattle.std.proofs.Common.{◌≡◌, replicate}
use Rattle.dav_cache.specs.declared.place.Place.TheVariants.{Idle}
use Rattle.dav_cache.proofs.world.idle_places.Given as goal

abbrev pub invariant-loop-i : goal.invariant-loop-i
invariant-loop-i l = l.places.items ≡ replicate l._i Idle
