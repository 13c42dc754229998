use Rattle.dav_core.proofs.Made.{parsed_path, pushed_path, parent_path, slashed_path}
use Rattle.dav_core.proofs.laws.paths_stay_paths.Goals as goal

pub returns : goal.returns
returns c = record { read = parsed_path; pushed = pushed_path; parent = parent_path; slash = slashed_path }
