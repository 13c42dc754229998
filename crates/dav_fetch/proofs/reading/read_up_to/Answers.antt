use Rattle.std.proofs.Common.{◌≡◌, ◌∙◌, ◌<◌, ◌++◌, length, [], take, min, refl, ap, rules, arith}
use Rattle.dav_fetch.proofs.BodyRead.{kept_more, left_more, read_more, read_none}
use Rattle.dav_fetch.proofs.Counting.{counts_none, piece_behind}
use Rattle.dav_fetch.proofs.reading.read_up_to.Goals as goal

pub loop-left-init : goal.loop-left-init
loop-left-init g c = ([], read_none _, search rules, search rules, refl, refl, counts_none _, λ s h. h)

pub loop-left-preserved : goal.loop-left-preserved
loop-left-preserved g c =
    let i = c.loop-left.invariant in
    let fewer : length i.0 < c.args.due = omega (arith, i.3, c.loop-left-test.true) in
    let wanted = c.least-wanted.result in
    let added : c.extend_from_slice.new.self.items ≡ c.loop-left.into.items ++ take wanted c.piece.new.into = search rules in (
      i.0 ++ take c.in-Ok.count c.piece.new.into,
      read_more _ _ _ i.0 c.piece.new.into c.in-Ok.count i.1 c.in-Ok.ensures.gives,
      added ∙ ap (λ z. z ++ take wanted c.piece.new.into) i.2 ∙ kept_more c.args.due c.in-Ok.count wanted i.0 c.piece.new.into c.args.into.now.items fewer (c.least-wanted.ensures ∙ ap (min c.in-Ok.count) i.3),
      left_more c.args.due c.in-Ok.count wanted c.loop-left.left i.0 c.piece.new.into c.in-Ok.ensures.gives.is.0 c.least-wanted.ensures i.3,
      search rules,
      search rules,
      piece_behind _ _ _ i.6 c.in-Ok.ensures.calls.replies c.in-Ok.ensures.calls.turns c.in-Ok.ensures.calls.failures,
      λ s h. c.piece.ensures.since s (i.7 s h),
    )
