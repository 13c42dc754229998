use Rattle.std.proofs.Common.{sym, subst}
use Rattle.dav_cache.specs.Core.{AllRise}
use Rattle.dav_cache.proofs.Rising.{rise-idle}
use Rattle.dav_cache.proofs.world.World.new.Goals as goal

pub invariant_of-result-2 : goal.invariant_of-result-2
invariant_of-result-2 c = subst AllRise (sym c.in_ok-places.ensures) (rise-idle c.args.callers)
