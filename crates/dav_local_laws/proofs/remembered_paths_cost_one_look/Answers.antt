use Rattle.std.proofs.Common.{◌≡◌, ◌||◌, false, not, ap, ◌∙◌}
use Rattle.std.specs.Option.{is_some}
use Rattle.dav_local.specs.Ways.{is_known}
use Rattle.dav_local_laws.proofs.remembered_paths_cost_one_look.Goals as goal

pub returns : goal.returns
returns g c = λ at result t looks folds alone real nothing held judged.
    let unknown : is_known c.args._fs.now.ways ≡ false = ap (λ a. is_some a || not c.args._fs.now.ways.folds) alone ∙ ap not folds in
    (c.calls_are_local.ensures.looks c.args._fs.now t tt c.args._path.now result looks).3.held real unknown nothing at held judged
