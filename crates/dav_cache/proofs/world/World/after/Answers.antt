use Rattle.std.proofs.Common.{◌≡◌, None, true, sym, subst}
use Rattle.dav_cache.specs.Core.{Listing, Rises, AllRise}
use Rattle.dav_memory.specs.Entries.{is_rising}
use Rattle.dav_cache.proofs.Rising.{rise-at}
use Rattle.dav_cache.proofs.world.World.after.Goals as goal

pub set-requires-clause-place : goal.set-requires-clause-place
set-requires-clause-place c =
    let found = c.in-Some-Lists.ensures.lookup in
    let all = subst AllRise (sym c.deref.ensures.value) c.self.invariant in
    let place = subst Rises c.in-Some-Lists.field-0-is (rise-at c.deref.result.now c.args.caller c.in-Some-Lists.field-0.now found.3.0 found.1 all) in
    subst (λ (l : Listing). is_rising None l.names ≡ true) (sym c.in_ok-listing-in-Some-Lists.ensures) place.0
