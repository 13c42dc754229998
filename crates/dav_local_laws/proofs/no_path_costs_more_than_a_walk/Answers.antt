use Rattle.std.proofs.Common.{◌≡◌, ◌||◌, false, not, ap, refl, ◌∙◌}
use Rattle.std.specs.Option.{is_some}
use Rattle.dav_core.specs.Writing.{reading}
use Rattle.dav_local.specs.Ways.{is_known}
use Rattle.dav_local.specs.Places.{place_of}
use Rattle.dav_local.proofs.FromRoot.{unknown_costs}
use Rattle.dav_local_laws.proofs.no_path_costs_more_than_a_walk.Goals as goal

pub returns-clause-looks : goal.returns-clause-looks
returns-clause-looks g c = λ result t looks folds alone.
    let unknown : is_known c.args._fs.now.ways ≡ false = ap (λ a. is_some a || not c.args._fs.now.ways.folds) alone ∙ ap not folds in
    unknown_costs 2 6 (is_known c.args._fs.now.ways) (place_of g.D.Disk.state g.R.Remember.state c.args._fs.now) (place_of g.D.Disk.state g.R.Remember.state t) c.args._path.now.names unknown (c.calls_are_local.ensures.looks c.args._fs.now t tt c.args._path.now result looks).3.most

pub returns-clause-opens : goal.returns-clause-opens
returns-clause-opens g c = λ result t opens folds alone.
    let unknown : is_known c.args._fs.now.ways ≡ false = ap (λ a. is_some a || not c.args._fs.now.ways.folds) alone ∙ ap not folds in
    unknown_costs 1 5 (is_known c.args._fs.now.ways) (place_of g.D.Disk.state g.R.Remember.state c.args._fs.now) (place_of g.D.Disk.state g.R.Remember.state t) c.args._path.now.names unknown ((c.calls_are_local.ensures.opens_once c.args._fs.now t tt c.args._path.now reading result opens).most refl)

pub returns-clause-lists : goal.returns-clause-lists
returns-clause-lists g c = λ wanted result t lists folds alone.
    let unknown : is_known c.args._fs.now.ways ≡ false = ap (λ a. is_some a || not c.args._fs.now.ways.folds) alone ∙ ap not folds in
    unknown_costs 2 6 (is_known c.args._fs.now.ways) (place_of g.D.Disk.state g.R.Remember.state c.args._fs.now) (place_of g.D.Disk.state g.R.Remember.state t) c.args._path.now.names unknown (c.calls_are_local.ensures.begins_once c.args._fs.now t tt c.args._path.now wanted result lists).most
