use Rattle.dav_fault_laws.proofs.WholeRuns.{run_by_faults, run_whole}
use Rattle.dav_fault_laws.proofs.runs_without_faults_are_whole.Goals as goal

pub returns : goal.returns
returns c = record { whole = run_whole; each = run_by_faults }
