use Rattle.std.proofs.Common.{refl}
use Rattle.dav_core.specs.Writing.{reading}
use Rattle.dav_local.specs.Places.{place_of}
use Rattle.dav_local.specs.Ways.{is_known}
use Rattle.dav_local.proofs.FromRoot.{known_costs}
use Rattle.dav_local_laws.proofs.paths_found_without_the_disk_cost_few.Goals as goal

pub returns-clause-looks : goal.returns-clause-looks
returns-clause-looks g c = λ result t looks known. known_costs 2 6 (is_known c.args._fs.now.ways) (place_of g.D.Disk.state g.R.Remember.state c.args._fs.now) (place_of g.D.Disk.state g.R.Remember.state t) c.args._path.now.names known (c.calls_are_local.ensures.looks c.args._fs.now t tt c.args._path.now result looks).3.most

pub returns-clause-opens : goal.returns-clause-opens
returns-clause-opens g c = λ result t opens known. known_costs 1 5 (is_known c.args._fs.now.ways) (place_of g.D.Disk.state g.R.Remember.state c.args._fs.now) (place_of g.D.Disk.state g.R.Remember.state t) c.args._path.now.names known ((c.calls_are_local.ensures.opens_once c.args._fs.now t tt c.args._path.now reading result opens).most refl)

pub returns-clause-lists : goal.returns-clause-lists
returns-clause-lists g c = λ wanted result t lists known. known_costs 2 6 (is_known c.args._fs.now.ways) (place_of g.D.Disk.state g.R.Remember.state c.args._fs.now) (place_of g.D.Disk.state g.R.Remember.state t) c.args._path.now.names known (c.calls_are_local.ensures.begins_once c.args._fs.now t tt c.args._path.now wanted result lists).most
