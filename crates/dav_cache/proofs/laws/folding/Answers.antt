use Rattle.dav_cache.proofs.Folds.{fold_name_idem, fold_path_idem}
use Rattle.dav_cache.proofs.laws.folding.Goals as goal

pub returns : goal.returns
returns c = record { name = fold_name_idem; path = fold_path_idem }
