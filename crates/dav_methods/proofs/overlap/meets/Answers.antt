use Rattle.std.proofs.Common.{sym, ◌∙◌, arith}
use Rattle.dav_methods.proofs.texts.Overlaps.{all_same, one_differs}
use Rattle.dav_methods.proofs.overlap.meets.Goals as goal

pub returns-then-not-branch : goal.returns-then-not-branch
returns-then-not-branch c =
    let near = c.loop-at-test.true in
    sym (one_differs c.args.folds c.args.names.now c.args.others.now c.loop-at.at c.index-names-at.result c.index-others-at.result (omega (arith, near, c.min-shorter.ensures))
    (omega (arith, near, c.min-shorter.ensures)) c.index-names-at.is c.index-others-at.is (sym c.in_ok-is_same.ensures ∙ c.if-not-branch.true))

pub returns : goal.returns
returns c = sym (all_same c.args.folds c.args.names.now c.args.others.now (λ k less. c.loop-at.invariant k (omega (arith, less, c.loop-at-test.false, c.min-shorter.ensures))))
