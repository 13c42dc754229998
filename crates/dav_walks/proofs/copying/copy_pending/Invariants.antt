use Rattle.dav_store.specs.View.{StaysOpen}
use Rattle.dav_walks.specs.Copying.{Copies}
use Rattle.dav_walks.specs.Lines.{Line}
use Rattle.dav_walks.specs.Walking.{transfers_left, weight_left}
use Rattle.dav_walks.proofs.copying.copy_pending.Given as goal

-- Whatever the work that is left comes to, the work at the start comes to.
abbrev pub invariant-works : goal.invariant-works
invariant-works g l = record {
  copies : (r : Line) (t : g.row.S.Denot)
      → Copies g.S.GuardedFileSystem.view g.S.GuardedFileSystem.listings l.credentials l.alone
      (transfers_left l.walk) l.fs r t
      → Copies g.S.GuardedFileSystem.view g.S.GuardedFileSystem.listings l.credentials l.alone
      (transfers_left l.initial.walk) l.initial.fs r t;
  stays : StaysOpen g.S.GuardedFileSystem.view l.initial.fs l.fs;
}

abbrev pub decreases-works : goal.decreases-works
decreases-works g l = weight_left l.walk
