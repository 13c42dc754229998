use Rattle.dav_core.proofs.Kept.{kept_more, kept_refused}
use Rattle.dav_core.proofs.grammar.kept_of.Goals as goal

pub returns-in-Err-clause-err : goal.returns-in-Err-clause-err
returns-in-Err-clause-err c = λ other. kept_refused _ _ _ _ _ c.loop-segment-test.true c.loop-segment.invariant (c.in-Err.ensures.err other)

pub loop-segment-preserved : goal.loop-segment-preserved
loop-segment-preserved c = kept_more _ _ _ _ _ c.loop-segment-test.true c.loop-segment.invariant c.in_default.ensures.ok
