use Rattle.dav_local_laws.proofs.LocalSeals.{absent_once}
use Rattle.dav_local_laws.proofs.absent_names_cost_one_look.Goals as goal

pub returns : goal.returns
returns g c = λ result t looks macos folds alone dot nothing known.
    absent_once _ _ _ (λ s. s.ways) (λ s. g.R.Remember.state s.memory) (λ s. s.moment) c.calls_are_local.ensures c.args._fs.now t tt c.args._path.now result looks macos folds alone dot nothing known
