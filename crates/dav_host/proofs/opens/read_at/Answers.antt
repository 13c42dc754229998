use Rattle.std.proofs.Common.{ap}
use Rattle.std.specs.Option.{option_map}
use Rattle.dav_core.proofs.TablesLemmas.{value_kept}
use Rattle.dav_host.specs.Host.{beside, live_at, live_of}
use Rattle.dav_host.specs.Places.{behind, place_at}
use Rattle.dav_host.proofs.Places.{place_written}
use Rattle.dav_host.proofs.opens.read_at.Goals as goal

pub returns-in-Some-get_mut-clause-live : goal.returns-in-Some-get_mut-clause-live
unfolding live_at
returns-in-Some-get_mut-clause-live g c =
    ap (beside (option_map live_of c.args.opens.now.first)) (value_kept live_of c.args.handle c.args.opens.now.others c.get_mut.follows.lender
    c.in-Some-get_mut.opened.now _ c.get_mut.follows.holds c.in-Some-get_mut.ensures.value c.read_on-in-Some-get_mut.ensures.live)

pub returns-in-Some-get_mut-clause-place : goal.returns-in-Some-get_mut-clause-place
unfolding place_at
returns-in-Some-get_mut-clause-place g c =
    place_written c.args.handle c.args.opens.now.first c.args.opens.now.others c.get_mut.follows.lender c.in-Some-get_mut.opened.now
    c.read_on-in-Some-get_mut.new.opened (λ kept. behind kept c.read_on-in-Some-get_mut.result) c.if-handle-eq0.false
    c.get_mut.follows.holds c.in-Some-get_mut.ensures.value c.read_on-in-Some-get_mut.ensures.place
