use Rattle.dav_store.specs.Leads.{ListedOn}
use Rattle.dav_store.specs.Listings.{left_of}
use Rattle.dav_store.specs.View.{StaysListing}
use Rattle.dav_store.proofs.members.run_out.Given as goal

abbrev pub invariant-entries : goal.invariant-entries
invariant-entries g l = record {
  stays : StaysListing g.S.GuardedFileSystem.view g.S.GuardedFileSystem.listings l.initial.fs l.initial.dir l.fs l.dir;
  on : ListedOn g.S.GuardedFileSystem.view g.S.GuardedFileSystem.listings
      l.initial.fs l.initial.dir l.fs l.dir;
}

abbrev pub decreases-entries : goal.decreases-entries
decreases-entries g l = g.S.GuardedFileSystem.listings.to_come l.dir
    (left_of (g.S.GuardedFileSystem.view.state l.fs) (g.S.GuardedFileSystem.listings.lister l.dir))
