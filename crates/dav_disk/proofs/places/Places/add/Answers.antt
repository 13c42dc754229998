use Rattle.std.proofs.Common.{sym, ◌∙◌, ap}
use Rattle.std.specs.Option.{is_some}
use Rattle.dav_disk.specs.Places.{place_in}
use Rattle.dav_disk.proofs.Placed.{has_still}
use Rattle.dav_disk.proofs.places.Places.add.Goals as goal

pub returns-then-is_some-clause-ok : goal.returns-then-is_some-clause-ok
returns-then-is_some-clause-ok c =
    has_still (place_in c.args.self.now) c.args.dir.now c.args.name.now c.args.place (ap is_some (sym c.place.ensures) ∙ sym c.is_some.ensures ∙ c.if-is_some.true)
