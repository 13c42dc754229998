use Rattle.std.proofs.Common.{◌≡◌, ◌-◌}
use Rattle.dav_walks.specs.Pouring.{most_bytes}
use Rattle.dav_walks.proofs.steps.PiecesWritten.{SoFar}
use Rattle.dav_walks.proofs.pouring.pour.Given as goal

abbrev pub invariant-pieces : goal.invariant-pieces
invariant-pieces g l = record {
  far : SoFar g.S.GuardedFileSystem.view g.S.File.DavFile.view.writes l.initial.fs l.initial.file (g.B.BodyReader.state l.initial.body) l.total
      l.fs l.file (g.B.BodyReader.state l.body);
  reads_from : g.S.GuardedFileSystem.view.file.reads_from l.file (g.S.GuardedFileSystem.view.state l.fs);
  body_loan : g.B.BodyReader.loan l.body ≡ g.B.BodyReader.loan l.initial.body;
}

abbrev pub decreases-pieces : goal.decreases-pieces
decreases-pieces g l = most_bytes - l.total
