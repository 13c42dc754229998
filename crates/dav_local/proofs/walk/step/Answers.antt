use Rattle.dav_local.proofs.Stepping.{steps_meta}
use Rattle.dav_local.proofs.FromRoot.{step_looked, step_sought, step_stays}
use Rattle.dav_local.proofs.walk.step.Goals as goal

pub returns-in-Ok-look-clause-done : goal.returns-in-Ok-look-clause-done
returns-in-Ok-look-clause-done g c =
    steps_meta _ _ _ _ _ _ c.in-Ok-look.field-0 c.in-Ok-look.ensures.done c.in-Ok-look.ensures.keeps c.as_str.ensures.value c.in-Ok.ensures

pub returns-in-Ok-look-clause-few : goal.returns-in-Ok-look-clause-few
returns-in-Ok-look-clause-few g c = step_looked _ _ _ _ _ c.in-Ok-look.ensures.done

pub returns-in-Err-Failed-clause-few : goal.returns-in-Err-Failed-clause-few
returns-in-Err-Failed-clause-few g c = step_looked _ _ _ _ _ c.in-Err-Failed.ensures.done

pub returns-in_default-clause-few : goal.returns-in_default-clause-few
returns-in_default-clause-few g c = step_stays (g.D.Disk.state c.args.disk.now) c.args.at.now

pub returns-clause-few : goal.returns-clause-few
returns-clause-few g c = step_sought (g.D.Disk.state c.args.disk.now) (g.D.Disk.state c.look.new.disk) (g.D.Disk.state c.alike.new.disk) c.args.at.now _ _ c.look.ensures.done c.alike.ensures.few
