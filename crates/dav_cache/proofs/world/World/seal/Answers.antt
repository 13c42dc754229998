use Rattle.std.proofs.Common.{sym, subst}
use Rattle.dav_cache.specs.Core.{Rises, AllRise}
use Rattle.dav_cache.proofs.Rising.{rise-at}
use Rattle.dav_cache.proofs.world.World.seal.Goals as goal

pub new_dots-requires : goal.new_dots-requires
new_dots-requires c =
    let found = c.in-Some-Ended.ensures.lookup in
    let all = subst AllRise (sym c.deref.ensures.value) c.self.invariant in
    subst Rises c.in-Some-Ended.field-0-is (rise-at c.deref.result.now c.args.caller c.in-Some-Ended.field-0.now found.3.0 found.1 all)
