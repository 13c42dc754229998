use Rattle.std.proofs.Common.{rules, arith, ◌∙◌}
use Rattle.std.proofs.lemmas.Bool.Decides.{nat_tests}
use Rattle.dav_local.proofs.Filling.{filled_ended, filled_full, filling_on}
use Rattle.dav_local.proofs.listing.fill.Goals as goal

pub loop-left-preserved : goal.loop-left-preserved
loop-left-preserved g c = (
  filling_on _ _ _ _ _ _ _ c.loop-left.invariant.0 (grind (arith, nat_tests)) (search rules) c.read_one.ensures.done c.read_one.ensures.goes_on c.read_one.ensures.lister,
  c.read_one.ensures.loan ∙ c.loop-left.invariant.1,
)

pub returns-else-not-is_ended-clause-done : goal.returns-else-not-is_ended-clause-done
returns-else-not-is_ended-clause-done g c = filled_ended _ _ _ _ _ c.loop-left.invariant.0 (search rules)

pub returns-after-loop-left-clause-done : goal.returns-after-loop-left-clause-done
returns-after-loop-left-clause-done g c = filled_full _ _ _ _ _ c.loop-left.invariant.0 (grind (arith, nat_tests))
