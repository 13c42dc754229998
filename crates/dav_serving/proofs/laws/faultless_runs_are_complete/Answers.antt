use Rattle.dav_serving.proofs.StatusByInput.{complete, invalid_is_still, valid_is_still}
use Rattle.dav_serving.proofs.laws.faultless_runs_are_complete.Goals as goal

pub returns : goal.returns
returns c = record { ends = complete; valid = valid_is_still; invalid = invalid_is_still }
