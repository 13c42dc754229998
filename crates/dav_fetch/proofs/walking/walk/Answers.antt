use Rattle.std.proofs.Common.{◌≡◌, ◌+◌, ℕ, List, ◌∙◌, ◌∷◌, [], ◌++◌, drop, length, slice_index_or, sym, ap, subst, rules, arith}
use Rattle.std.proofs.lemmas.List.{length-append}
use Rattle.dav_fetch.specs.Fetching.{AtPage}
use Rattle.dav_fetch.specs.Walk.{Visit, start, way_of}
use Rattle.dav_fetch.proofs.Counting.{counts_then}
use Rattle.dav_fetch.proofs.Ways.{due_first, pages_then, whole_then}
use Rattle.dav_fetch.proofs.Whole.{lacks_stop}
use Rattle.dav_fetch.proofs.walking.walk.Goals as goal

one_longer : (n : ℕ) (a : List Visit) (v : Visit) → n ≡ length a → n + 1 ≡ length (a ++ v ∷ [])
one_longer n a v e = ap (λ k. k + 1) e ∙ sym (length-append a (v ∷ []))

pub returns-then-is_err-clause-walks : goal.returns-then-is_err-clause-walks
returns-then-is_err-clause-walks g c = lacks_stop _ c.args.most

pub returns-in-Err-clause-walks : goal.returns-in-Err-clause-walks
returns-in-Err-clause-walks g c =
    let i = c.loop-at.invariant in
    let e = c.in-Err.ensures.ends in
    record {
      visits = i.0;
      way = way_of c.loop-at.at c.loop-at.walked.dirs.items c.loop-at.walked.files.items;
      dir = slice_index_or c.loop-at.walked.dirs.items c.loop-at.at [];
      due = drop (c.loop-at.at + 1) c.loop-at.walked.dirs.items;
      mid = g.P.Peer.state c.loop-at.peer;
      last = e.0;
      chain = i.1;
      read = i.2;
      is_due = due_first c.loop-at.at c.loop-at.walked.dirs.items c.loop-at.walked.files.items (search rules);
      within = search rules;
      at = subst (λ k. AtPage (slice_index_or c.loop-at.walked.dirs.items c.loop-at.at []) (record { made = k; most = c.args.most }) c.in-Err.error
          (record { before = g.P.Peer.state c.loop-at.peer; visits = e.0; after = g.P.Peer.state c.go_on.new.peer })) i.3 e.1;
    }

pub returns-in-Err-clause-within : goal.returns-in-Err-clause-within
returns-in-Err-clause-within g c =
    let i = c.loop-at.invariant in
    counts_then _ _ _ i.7 c.in-Err.ensures.within (omega (arith, i.4))

pub loop-at-preserved : goal.loop-at-preserved
loop-at-preserved g c =
    let i = c.loop-at.invariant in
    let e = c.in-Ok.ensures.done in (
      i.0 ++ e.0 ∷ [],
      whole_then _ _ _ i.0 (e.0 ∷ []) i.1 e.1,
      pages_then start _ _ i.0 (e.0 ∷ []) i.2 e.2,
      c.in-Ok.ensures.made.0 ∙ one_longer c.loop-at.walked.made i.0 e.0 i.3,
      c.in-Ok.ensures.made.1,
      omega (arith, c.in-Ok.ensures.inside),
      search rules,
      counts_then _ _ _ i.7 c.in-Ok.ensures.counts (omega (arith, c.in-Ok.ensures.made.0)),
      λ s h. c.go_on.ensures.since s (i.8 s h),
    )
