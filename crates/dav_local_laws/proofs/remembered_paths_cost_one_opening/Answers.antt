use Rattle.std.proofs.Common.{◌≡◌, ◌||◌, false, not, ap, refl, ◌∙◌}
use Rattle.std.specs.Option.{is_some}
use Rattle.dav_core.specs.Writing.{reading}
use Rattle.dav_local.specs.Ways.{is_known}
use Rattle.dav_local_laws.proofs.remembered_paths_cost_one_opening.Goals as goal

pub returns : goal.returns
returns g c = λ at result t opens folds alone open_ nothing held.
    let unknown : is_known c.args._fs.now.ways ≡ false = ap (λ a. is_some a || not c.args._fs.now.ways.folds) alone ∙ ap not folds in
    (c.calls_are_local.ensures.opens_once c.args._fs.now t tt c.args._path.now reading result opens).held open_ refl unknown nothing at held
