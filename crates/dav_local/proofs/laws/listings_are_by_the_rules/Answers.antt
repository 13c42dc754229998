use Rattle.dav_local.specs.Calls.{place_of}
use Rattle.dav_local.proofs.ByRules.{lists_by_rules}
use Rattle.dav_local.proofs.laws.listings_are_by_the_rules.Goals as goal

pub returns : goal.returns
returns g c w wanted result t told lists =
    lists_by_rules (place_of g.D.Disk.state g.R.Remember.state c.args._fs.now) (place_of g.D.Disk.state g.R.Remember.state t) w c.args._path.now wanted result told lists.0
