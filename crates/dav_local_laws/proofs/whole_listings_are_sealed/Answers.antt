use Rattle.dav_local.specs.Calls.{place_of}
use Rattle.dav_local_laws.proofs.LocalSeals.{end_sealed, walk_gathers}
use Rattle.dav_local_laws.proofs.whole_listings_are_sealed.Goals as goal

pub returns : goal.returns
returns g c = record {
  gathers = λ n o l k answers b is walk. walk_gathers _ _ _ (λ s. s.ways) (λ s. g.R.Remember.state s.memory) (λ s. s.moment) c.calls_are_local.ensures n l answers o k b is walk;
  seals = λ t k j b time w is settles told clear there nothing on.
      end_sealed b time c.args._fs.now.moment (place_of g.D.Disk.state g.R.Remember.state c.args._fs.now) (place_of g.D.Disk.state g.R.Remember.state t) k j w is settles told clear there nothing on.0;
}
