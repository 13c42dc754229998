use Rattle.std.proofs.Common.{◌==◌, sym, ap, ◌∙◌, length, Some, option_map}
use Rattle.dav_model.specs.Slices.{asked, judged}
use Rattle.dav_get.proofs.Judging.{passed_empty, passed_unmet, passed_part, passed_everything}
use Rattle.dav_get.proofs.ranges.judge_all.Goals as goal
use Rattle.dav_get.proofs.ranges.judge_all.Goals.{then-not-is_empty+in-Some-Unmet, then-not-is_empty+in-Some-Part+in_ok-push-in-Some-Part, then-not-is_empty+in-Some-Everything, else-not-is_empty}

pub loop-piece-preserved : goal.loop-piece-preserved
loop-piece-preserved c =
    let comes = ap (λ m. option_map (judged c.args.len) (asked m)) c.trimmed-member.ensures in
    let is_empty = ap (λ m. length m == 0) (sym c.trimmed-member.ensures) ∙ sym c.is_empty.ensures in
    elim c.if-not-is_empty.branch [
      | then-not-is_empty+in-Some-Unmet w ↦
          rw (w.has_member-is, w.everything-is, w.met-is)
          (passed_unmet c.args.len c.args.pieces.now c.loop-piece.piece-index _ _ c.loop-piece.has_member c.loop-piece.everything c.loop-piece.met.items
          c.loop-piece-test.true c.loop-piece.invariant (is_empty ∙ w.if-not-is_empty.true)
          (ap (λ o. Some o) (sym w.in-Some-Unmet.field-0-is) ∙ w.in-Some-Unmet.ensures ∙ comes))
      | then-not-is_empty+in-Some-Part+in_ok-push-in-Some-Part w ↦
          rw (w.has_member-is, w.everything-is, w.met-is)
          (passed_part c.args.len c.args.pieces.now c.loop-piece.piece-index _ _ c.loop-piece.has_member c.loop-piece.everything c.loop-piece.met.items _ w.in-Some-Part.slice
          c.loop-piece-test.true c.loop-piece.invariant (is_empty ∙ w.if-not-is_empty.true)
          (ap (λ o. Some o) (sym w.in-Some-Part.field-0-is) ∙ w.in-Some-Part.ensures ∙ comes) w.in_ok-push-in-Some-Part.ensures.items)
      | then-not-is_empty+in-Some-Everything w ↦
          rw (w.has_member-is, w.everything-is, w.met-is)
          (passed_everything c.args.len c.args.pieces.now c.loop-piece.piece-index _ _ c.loop-piece.has_member c.loop-piece.everything c.loop-piece.met.items
          c.loop-piece-test.true c.loop-piece.invariant (is_empty ∙ w.if-not-is_empty.true)
          (ap (λ o. Some o) (sym w.in-Some-Everything.field-0-is) ∙ w.in-Some-Everything.ensures ∙ comes))
      | else-not-is_empty w ↦
          rw (w.has_member-is, w.everything-is, w.met-is)
          (passed_empty c.args.len c.args.pieces.now c.loop-piece.piece-index _ _ c.loop-piece.has_member c.loop-piece.everything c.loop-piece.met.items
          c.loop-piece-test.true c.loop-piece.invariant (is_empty ∙ w.if-not-is_empty.false))
    ]
