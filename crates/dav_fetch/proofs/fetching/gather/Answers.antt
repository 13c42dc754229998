use Rattle.std.proofs.Common.{◌≡◌, ◌∙◌, ◌≤◌, ◌+◌, ◌-◌, ◌++◌, ◌∷◌, [], drop, take, length, reverse, refl, sym, ap, subst, rules, arith}
use Rattle.std.specs.Option.{option_to_list}
use Rattle.std.proofs.lemmas.List.{length-drop, reverse-reverse, take_all}
use Rattle.dav_fetch.specs.Fetching.{is_peer_failure, kept_at, kept_of}
use Rattle.dav_fetch.specs.Keeping.{AreAscending, AreInOrder}
use Rattle.dav_fetch.specs.Peer.{Counts}
use Rattle.dav_fetch.specs.Taking.{TakesFile}
use Rattle.dav_fetch.proofs.Counting.{counts_none, counts_then}
use Rattle.dav_fetch.proofs.Gathered.{Gone, gathers_err, goes_on, kept_fits, none_gone}
use Rattle.dav_fetch.proofs.Orders.{SameAt, ascend_drop, drop_step, first_below, kept_same, same_at_all, same_behind}
use Rattle.dav_fetch.proofs.fetching.gather.Goals as goal

pub loop-at-init : goal.loop-at-init
loop-at-init g c =
    let back : c.args.old.items ≡ reverse c.reverse.new.self.items = sym (ap reverse c.reverse.ensures.items ∙ reverse-reverse c.args.old.items) in (
      [],
      none_gone c.args.old.items c.args.paths.now (g.P.Peer.state c.args.peer.now) c.args.files.items c.requires.none,
      search rules,
      c.requires.made,
      subst (λ l. SameAt c.args.old.items l c.args.paths.now) back (same_at_all c.args.old.items c.args.paths.now),
      subst AreInOrder back c.requires.order,
      search rules,
      search rules,
      refl,
      counts_none _,
      λ s h. h,
    )

pub take_file-kept-requires-clause-kept : goal.take_file-kept-requires-clause-kept
take_file-kept-requires-clause-kept g c =
    let i = c.loop-at.invariant in
    let paths = c.args.paths.now in
    let path = c.index-paths-at.result in
    let parts : drop c.loop-at.at paths ≡ path ∷ drop (c.loop-at.at + 1) paths = drop_step paths c.loop-at.at path (search rules) ∙ ap (λ p. p ∷ drop (c.loop-at.at + 1) paths) (search rules) in
    let same : SameAt c.args.old.items (reverse c.loop-at.old.items) (path ∷ drop (c.loop-at.at + 1) paths) = subst (SameAt c.args.old.items (reverse c.loop-at.old.items)) parts i.4 in
    kept_fits path c.args.old.items c.requires.kept c.next_kept-kept.result (sym (c.next_kept-kept.ensures.found ∙ same.0))

pub keep_rest-requires-clause-paths : goal.keep_rest-requires-clause-paths
keep_rest-requires-clause-paths g c =
    let paths = c.args.paths.now in
    subst AreAscending (sym (take_all (length paths - (c.loop-at.at + 1)) (drop (c.loop-at.at + 1) paths) (omega (arith, length-drop (c.loop-at.at + 1) paths)))) (ascend_drop (c.loop-at.at + 1) paths c.requires.paths)

pub returns-in-Err-clause-gathers : goal.returns-in-Err-clause-gathers
returns-in-Err-clause-gathers g c =
    let i = c.loop-at.invariant in
    let paths = c.args.paths.now in
    let old = c.args.old.items in
    let path = c.index-paths-at.result in
    let more = drop (c.loop-at.at + 1) paths in
    let parts : drop c.loop-at.at paths ≡ path ∷ more = drop_step paths c.loop-at.at path (search rules) ∙ ap (λ p. p ∷ more) (search rules) in
    let same : SameAt old (reverse c.loop-at.old.items) (path ∷ more) = subst (SameAt old (reverse c.loop-at.old.items)) parts i.4 in
    let kept : c.next_kept-kept.result ≡ kept_at path old = c.next_kept-kept.ensures.found ∙ same.0 in
    let up : AreAscending (path ∷ more) = subst AreAscending parts (ascend_drop c.loop-at.at paths c.requires.paths) in
    let behind = same_behind path old (reverse c.loop-at.old.items) (reverse c.next_kept-kept.new.rest.items) more (first_below path more up) c.next_kept-kept.ensures.behind same.1 in
    let takes = subst (λ o. TakesFile path o c.loop-at.made c.args.most (g.P.Peer.state c.loop-at.peer) c.take_file-kept.result (g.P.Peer.state c.take_file-kept.new.peer)) kept c.take_file-kept.ensures.takes in
    let rest : kept_of (take (length paths - (c.loop-at.at + 1)) more) (reverse c.next_kept-kept.new.rest.items) ≡ kept_of more old =
    ap (λ ps. kept_of ps (reverse c.next_kept-kept.new.rest.items)) (take_all (length paths - (c.loop-at.at + 1)) more (omega (arith, length-drop (c.loop-at.at + 1) paths)))
    ∙ kept_same old (reverse c.next_kept-kept.new.rest.items) more behind in
    let now = subst (λ k. TakesFile path (kept_at path old) k c.args.most (g.P.Peer.state c.loop-at.peer) c.take_file-kept.result (g.P.Peer.state c.take_file-kept.new.peer)) i.2 takes in
    let gone = subst (Gone old paths (record { before = g.P.Peer.state c.args.peer.now; visits = i.0; after = g.P.Peer.state c.loop-at.peer }) c.loop-at.files.items) parts i.1 in
    gathers_err old paths (record { made = c.args.made; most = c.args.most }) _ c.loop-at.files.items path more _ c.take_file-kept.result c.in-Err.error _
    gone (subst (λ k. k ≤ c.args.most) i.2 i.3) now c.in-Err.is refl
    (c.keep_rest.ensures ∙ ap (λ f. f ++ kept_of (take (length paths - (c.loop-at.at + 1)) more) (reverse c.next_kept-kept.new.rest.items)) c.push_kept.ensures.items
    ∙ ap (λ r. (c.loop-at.files.items ++ option_to_list c.take_file-kept.result.kept) ++ r) rest)

pub loop-at-preserved : goal.loop-at-preserved
loop-at-preserved g c =
    let i = c.loop-at.invariant in
    let paths = c.args.paths.now in
    let old = c.args.old.items in
    let path = c.index-paths-at.result in
    let more = drop (c.loop-at.at + 1) paths in
    let parts : drop c.loop-at.at paths ≡ path ∷ more = drop_step paths c.loop-at.at path (search rules) ∙ ap (λ p. p ∷ more) (search rules) in
    let same : SameAt old (reverse c.loop-at.old.items) (path ∷ more) = subst (SameAt old (reverse c.loop-at.old.items)) parts i.4 in
    let kept : c.next_kept-kept.result ≡ kept_at path old = c.next_kept-kept.ensures.found ∙ same.0 in
    let up : AreAscending (path ∷ more) = subst AreAscending parts (ascend_drop c.loop-at.at paths c.requires.paths) in
    let takes = subst (λ o. TakesFile path o c.loop-at.made c.args.most (g.P.Peer.state c.loop-at.peer) c.take_file-kept.result (g.P.Peer.state c.take_file-kept.new.peer)) kept c.take_file-kept.ensures.takes in
    let gone = subst (Gone old paths (record { before = g.P.Peer.state c.args.peer.now; visits = i.0; after = g.P.Peer.state c.loop-at.peer }) c.loop-at.files.items) parts i.1 in
    let (went, few) = goes_on old paths (record { made = c.loop-at.made; most = c.args.most }) _ c.loop-at.files.items path more _ c.take_file-kept.result gone takes c.in_default.is in
    let calls = subst (λ e. Counts 1 (is_peer_failure e) (g.P.Peer.calls c.loop-at.peer) (g.P.Peer.calls c.take_file-kept.new.peer)) c.in_default.is c.take_file-kept.ensures.counts in (
      went.visits,
      subst (λ f. Gone old paths (record { before = g.P.Peer.state c.args.peer.now; visits = went.visits; after = g.P.Peer.state c.take_file-kept.new.peer }) f more) (sym c.push_kept.ensures.items) went.gone,
      omega (arith, i.2, went.count),
      omega (arith, few),
      same_behind path old (reverse c.loop-at.old.items) (reverse c.next_kept-kept.new.rest.items) more (first_below path more up) c.next_kept-kept.ensures.behind same.1,
      c.next_kept-kept.ensures.order,
      omega (arith, i.6, c.push_kept.ensures.len, c.push_kept.ensures.capacity, ap length parts),
      search rules,
      search rules,
      counts_then _ _ _ i.9 calls (omega (arith, went.count)),
      λ s h. c.take_file-kept.ensures.since s (i.10 s h),
    )

pub returns-in-Err-clause-counts : goal.returns-in-Err-clause-counts
returns-in-Err-clause-counts g c =
    let i = c.loop-at.invariant in
    let told = subst (λ e. Counts (c.args.most - c.loop-at.made) (is_peer_failure e) (g.P.Peer.calls c.loop-at.peer) (g.P.Peer.calls c.take_file-kept.new.peer)) c.in-Err.is c.take_file-kept.ensures.few in
    counts_then _ _ _ i.9 told (omega (arith, i.2, i.3))
