use Rattle.std.proofs.Common.{◌≡◌, ◌<◌, ℕ, List, length, sym, subst, rules}
use Rattle.std.specs.List.{AllByRecursion}
use Rattle.dav_fetch.specs.Copy.{IsKept}
use Rattle.dav_fetch.specs.Gathering.{Gathers}
use Rattle.dav_fetch.proofs.Copies.{fetched_copy}
use Rattle.dav_fetch.proofs.Whole.{gathered_fetched, unplanned_fetched, walked_named}
use Rattle.dav_fetch.proofs.fetching.fetch.Goals as goal

pub returns-in_default-clause-fetched : goal.returns-in_default-clause-fetched
returns-in_default-clause-fetched g c = unplanned_fetched _ _ c.args.copy.now c.args.most c.in_ok-walked.walked c.in_ok-walked.ensures.walks

pub gather-files-requires-clause-named : goal.gather-files-requires-clause-named
gather-files-requires-clause-named g c =
    subst (AllByRecursion (λ (path : List (List ℕ)). 0 < length path)) (sym c.deref.ensures.value)
    (walked_named _ _ c.args.most c.in_ok-walked.walked c.in-Ok.plan.paths.items c.in_ok-walked.ensures.walks c.in-Ok.ensures.paths)

pub gather-files-requires-clause-kept : goal.gather-files-requires-clause-kept
gather-files-requires-clause-kept g c =
    let old_is : c.into_vec-old.result.items ≡ c.args.copy.now.files = search rules in
    subst (AllByRecursion IsKept) (sym old_is) c.requires.each

pub returns-clause-fetched : goal.returns-clause-fetched
returns-clause-fetched g c =
    let old_is : c.into_vec-old.result.items ≡ c.args.copy.now.files = search rules in
    let m = g.P.Peer.state c.walk.new.peer in
    let t = g.P.Peer.state c.gather-files.new.peer in
    let gathers = subst (λ o. Gathers o c.in-Ok.plan.paths.items c.in_ok-walked.walked.made c.args.most m c.gather-files.result t) old_is
    (subst (λ p. Gathers c.into_vec-old.result.items p c.in_ok-walked.walked.made c.args.most m c.gather-files.result t) c.deref.ensures.value
    (subst (λ k. Gathers c.into_vec-old.result.items c.deref.result.now k c.args.most m c.gather-files.result t) c.in-Ok.ensures.made c.gather-files.ensures.gathers)) in
    rw c.new.ensures (rw c.new-2.ensures
    (gathered_fetched (g.P.Peer.state c.args.peer.now) m t c.args.copy.now c.args.most c.in_ok-walked.walked c.in-Ok.plan.dirs.items c.in-Ok.plan.paths.items c.gather-files.result c.in_ok-walked.ensures.walks c.in-Ok.ensures.dirs c.in-Ok.ensures.paths gathers))

pub returns-clause-copy : goal.returns-clause-copy
returns-clause-copy g c = fetched_copy _ _ c.args.copy.now _ c.args.most c.gather-files.result.ended (returns-clause-fetched g c) c.requires
