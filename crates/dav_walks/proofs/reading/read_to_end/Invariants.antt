use Rattle.std.proofs.Common.{List}
use Rattle.dav_core.specs.DavPath.{WebPath}
use Rattle.dav_store.specs.Listings.{left_of}
use Rattle.dav_store.specs.Members.{Answered, Walked}
use Rattle.dav_store.specs.View.{StaysListing}
use Rattle.dav_walks.specs.Walking.{members_at}
use Rattle.dav_walks.proofs.steps.MembersRead.{ToldSoFar}
use Rattle.dav_walks.proofs.reading.read_to_end.Given as goal

abbrev pub invariant-entries : goal.invariant-entries
invariant-entries g l = record {
  stays : StaysListing g.S.GuardedFileSystem.view g.S.GuardedFileSystem.listings l.initial.fs l.initial.dir l.fs l.dir;
  walk : (answers : List Answered) × Walked g.S.GuardedFileSystem.view g.S.GuardedFileSystem.listings
      l.initial.fs l.initial.dir answers l.fs l.dir × ((path : WebPath) → ToldSoFar path answers (members_at path l.members.items));
}

abbrev pub decreases-entries : goal.decreases-entries
decreases-entries g l = g.S.GuardedFileSystem.listings.to_come l.dir
    (left_of (g.S.GuardedFileSystem.view.state l.fs) (g.S.GuardedFileSystem.listings.lister l.dir))
