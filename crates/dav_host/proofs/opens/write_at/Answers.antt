use Rattle.std.proofs.Common.{refl, ap}
use Rattle.std.specs.Option.{option_map}
use Rattle.dav_core.proofs.TablesLemmas.{value_kept}
use Rattle.dav_host.specs.Host.{beside, live_at, live_of}
use Rattle.dav_host.proofs.opens.write_at.Goals as goal

pub returns-in-Some-get_mut-clause-live : goal.returns-in-Some-get_mut-clause-live
unfolding live_at
returns-in-Some-get_mut-clause-live g c =
    ap (beside (option_map live_of c.args.opens.now.first)) (value_kept live_of c.args.handle c.args.opens.now.others c.get_mut.follows.lender
    c.in-Some-get_mut.opened.now _ c.get_mut.follows.holds c.in-Some-get_mut.ensures.value refl)
