use Rattle.std.proofs.Common.{◌≡◌, true, nat_le, IfSome, sym, ap, subst, ◌∙◌}
use Rattle.std.specs.Option.{option_map}
use Rattle.dav_core.proofs.TablesLemmas.{value_kept}
use Rattle.dav_core.specs.World.{at_key}
use Rattle.dav_host.specs.Host.{beside, live_at, live_of}
use Rattle.dav_host.specs.Places.{is_only_read, last_place, place_at, sought}
use Rattle.dav_host.proofs.Places.{live_there, place_written}
use Rattle.dav_host.proofs.opens.seek_at.Goals as goal

pub returns-in-Some-get_mut-clause-live : goal.returns-in-Some-get_mut-clause-live
unfolding live_at
returns-in-Some-get_mut-clause-live g c =
    ap (beside (option_map live_of c.args.opens.now.first)) (value_kept live_of c.args.handle c.args.opens.now.others c.get_mut.follows.lender
    c.in-Some-get_mut.opened.now _ c.get_mut.follows.holds c.in-Some-get_mut.ensures.value c.go_to-in-Some-get_mut.ensures.live)

pub returns-in-Some-get_mut-clause-place : goal.returns-in-Some-get_mut-clause-place
unfolding place_at live_at
returns-in-Some-get_mut-clause-place g c =
    let there = live_there c.args.handle c.args.opens.now.first c.args.opens.now.others c.in-Some-get_mut.opened.now c.if-handle-eq0.false
    c.in-Some-get_mut.ensures.value in
    record {
      places = place_written c.args.handle c.args.opens.now.first c.args.opens.now.others c.get_mut.follows.lender c.in-Some-get_mut.opened.now
          c.go_to-in-Some-get_mut.new.opened
          (sought (beside (option_map live_of c.args.opens.now.first) (λ h. option_map live_of (at_key c.args.opens.now.others h)) c.args.handle) c.args.place c.go_to-in-Some-get_mut.result)
          c.if-handle-eq0.false c.get_mut.follows.holds c.in-Some-get_mut.ensures.value
          (c.go_to-in-Some-get_mut.ensures.place ∙ ap (λ l. sought l c.args.place c.go_to-in-Some-get_mut.result c.in-Some-get_mut.opened.now.place) (sym there));
      named = subst (λ l. IfSome l (λ k. is_only_read k ≡ true → c.go_to-in-Some-get_mut.result ≡ nat_le c.args.place last_place)) (sym there) c.go_to-in-Some-get_mut.ensures.named;
    }
