use Rattle.dav_io.specs.Counts.{Rose}
use Rattle.dav_model.proofs.RightReplies.{right_listed}
use Rattle.dav_model.proofs.WellFormedRuns.{gate_well_formed, right_well_formed, run_well}
use Rattle.dav_model.proofs.laws.right_replies_are_well_formed.Goals as goal

pub returns : goal.returns
returns c = record {
  right = λ q shown before after. right_well_formed q shown (Rose before after);
  status = λ q shown before after. right_listed q shown (Rose before after);
  refused = gate_well_formed;
  run = run_well;
}
