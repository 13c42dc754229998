use Rattle.std.proofs.Common.{ap}
use Rattle.dav_core.specs.Path.{Names}
use Rattle.dav_local.specs.Listing.{ListingState}
use Rattle.dav_local.proofs.Filling.{reads_kept_at}
use Rattle.dav_local.proofs.listing.read_one.Goals as goal

pub returns-in-Ok-clause-done : goal.returns-in-Ok-clause-done
returns-in-Ok-clause-done g c =
    let at : Names → ListingState = λ path. record {
      lister = c.dir.inside.lister;
      path = path;
      wanted = c.dir.inside.wanted;
      batch = c.dir.inside.batch.items;
      refused = c.dir.inside.refused;
      over = c.dir.inside.over;
    } in
    reads_kept_at _ _ _ _ _ _ _ c.in-Ok-Some.name c.in-Ok.entry c.dir.view_is (ap at c.entry_of.ensures.path) (rw c.in-Ok-Some.field-0-is at c.in-Ok-Some.ensures.done) c.in-Ok.ensures.done
    c.entry_of.ensures.keeps c.keep.ensures
