use Rattle.std.proofs.Common.{rules, arith, ◌∙◌}
use Rattle.std.proofs.lemmas.Bool.Decides.{nat_tests}
use Rattle.dav_local.proofs.WriteLoops.{kept_done, kept_more, kept_refused, whole}
use Rattle.dav_local.proofs.writing.write_all.Goals as goal

pub loop-rest-preserved : goal.loop-rest-preserved
loop-rest-preserved g c = (
  kept_more _ _ _ _ _ _ _ _ _ c.loop-rest.invariant.0 (whole _) c.in-Ok.ensures.done c.split_at.ensures.back,
  c.in-Ok.ensures.loan ∙ c.loop-rest.invariant.1,
)

pub returns-in-Err-clause-done : goal.returns-in-Err-clause-done
returns-in-Err-clause-done g c = kept_refused _ _ _ _ _ _ _ _ _ c.loop-rest.invariant.0 (whole _) (search rules) c.in-Err.ensures.done c.into.ensures

pub returns-clause-done : goal.returns-clause-done
returns-clause-done g c = kept_done _ _ _ _ _ c.loop-rest.invariant.0 (grind (arith, nat_tests))
