use Rattle.dav_model.proofs.StillSteps.{stepped_forgotten, still_after, step_agrees}
use Rattle.dav_model.proofs.laws.steps_over_a_still_world.Goals as goal

pub returns-clause-forgotten : goal.returns-clause-forgotten
returns-clause-forgotten c = stepped_forgotten

pub returns-clause-still : goal.returns-clause-still
returns-clause-still c = still_after

pub returns-clause-agrees : goal.returns-clause-agrees
returns-clause-agrees c = step_agrees
