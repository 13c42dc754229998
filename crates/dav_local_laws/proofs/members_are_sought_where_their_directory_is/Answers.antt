use Rattle.std.proofs.Common.{◌≡◌, ◌||◌, true, false, not, ap, refl, subst, ◌∙◌}
use Rattle.std.specs.Option.{is_some}
use Rattle.dav_core.specs.Writing.{reading}
use Rattle.dav_model.specs.Finding.{has_slash}
use Rattle.dav_local.specs.Calls.{LooksAt, place_of}
use Rattle.dav_local.specs.Near.{SeeksNear}
use Rattle.dav_local.specs.Ways.{is_known}
use Rattle.dav_local_laws.proofs.members_are_sought_where_their_directory_is.Goals as goal

pub returns-clause-looks : goal.returns-clause-looks
returns-clause-looks g c = λ result t looks folds alone real.
    let unknown : is_known c.args._fs.now.ways ≡ false = ap (λ a. is_some a || not c.args._fs.now.ways.folds) alone ∙ ap not folds in
    subst (λ slash. SeeksNear 4 (place_of g.D.Disk.state g.R.Remember.state c.args._fs.now) c.args._path.now.names (LooksAt true slash) result (place_of g.D.Disk.state g.R.Remember.state t))
    (ap (λ a. has_slash a c.args._path.now) alone)
    ((c.calls_are_local.ensures.looks c.args._fs.now t tt c.args._path.now result looks).3.above real unknown)

pub returns-clause-opens : goal.returns-clause-opens
returns-clause-opens g c = λ result t opens folds alone open_.
    let unknown : is_known c.args._fs.now.ways ≡ false = ap (λ a. is_some a || not c.args._fs.now.ways.folds) alone ∙ ap not folds in
    (c.calls_are_local.ensures.opens_once c.args._fs.now t tt c.args._path.now reading result opens).above open_ refl unknown
