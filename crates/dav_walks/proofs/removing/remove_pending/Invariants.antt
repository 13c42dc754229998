use Rattle.std.proofs.Common.{◌≡◌, List, [], true}
use Rattle.dav_store.specs.View.{StaysOpen}
use Rattle.dav_walks.specs.declared.work.Work.{Work}
use Rattle.dav_walks.specs.Lines.{Line}
use Rattle.dav_walks.specs.Removing.{Removes}
use Rattle.dav_walks.specs.Walking.{works_at}
use Rattle.dav_walks.specs.Weights.{weight}
use Rattle.dav_walks.proofs.removing.remove_pending.Given as goal

-- Whatever the work that is left comes to, the work at the start comes to.
abbrev pub invariant-works : goal.invariant-works
invariant-works g l = record {
  removes : (last : List Work) (r : Line) (t : g.row.S.Denot)
      → Removes g.S.GuardedFileSystem.view g.S.GuardedFileSystem.listings l.credentials
      (works_at l.path l.works.items last) l.fs r t
      → Removes g.S.GuardedFileSystem.view g.S.GuardedFileSystem.listings l.credentials
      (works_at l.initial.path l.initial.works.items last) l.initial.fs r t;
  slash : l.path.slash ≡ true;
  stays : StaysOpen g.S.GuardedFileSystem.view l.initial.fs l.fs;
}

abbrev pub decreases-works : goal.decreases-works
decreases-works g l = weight (works_at l.path l.works.items [])
