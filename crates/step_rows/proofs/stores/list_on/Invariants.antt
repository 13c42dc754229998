use Rattle.std.specs.Prelude.{◌≡◌}
use Rattle.dav_store.specs.Listings.{HasLister}
use Rattle.step_rows.proofs.stores.list_on.Given as goal

abbrev pub invariant-entries : goal.invariant-entries
invariant-entries g l = record {
  live : HasLister (g.S.GuardedFileSystem.view.state l.store) (g.S.GuardedFileSystem.listings.lister l.dir);
  lister : g.S.GuardedFileSystem.listings.lister l.dir ≡ g.S.GuardedFileSystem.listings.lister l.initial.dir;
}
