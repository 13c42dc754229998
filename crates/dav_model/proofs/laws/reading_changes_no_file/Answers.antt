use Rattle.dav_model.proofs.JoiningLemmas.{reading_keeps}
use Rattle.dav_model.proofs.laws.reading_changes_no_file.Goals as goal

pub returns : goal.returns
returns c = reading_keeps
