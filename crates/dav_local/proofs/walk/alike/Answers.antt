use Rattle.dav_local.proofs.Stepping.{steps_found, steps_none}
use Rattle.dav_local.proofs.walk.alike.Goals as goal

pub returns-in-Ok-child-clause-done : goal.returns-in-Ok-child-clause-done
returns-in-Ok-child-clause-done g c =
    steps_found _ _ _ _ _ _ _ _ _ c.in-Ok-Some.ensures.done c.in-Ok-Some.field-0-is c.in-Ok.ensures c.as_str.ensures.value c.in-Ok-child.ensures

pub returns-in-Ok-None-clause-done : goal.returns-in-Ok-None-clause-done
returns-in-Ok-None-clause-done g c = steps_none _ _ _ _ _ _ c.in-Ok-None.ensures.done c.in-Ok-None.field-0-is c.in-Ok.ensures
