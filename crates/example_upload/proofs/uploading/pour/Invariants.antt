use Rattle.std.proofs.Common.{ℕ, IsSome}
use Rattle.example_upload.proofs.uploading.pour.Given as goal

abbrev pub invariant-pieces : goal.invariant-pieces
invariant-pieces g l = record {
  live : IsSome ((g.S.GuardedFileSystem.view.state l.store).live (g.S.GuardedFileSystem.view.file.handle l.upload.file));
  reads_from : g.S.GuardedFileSystem.view.file.reads_from l.upload.file (g.S.GuardedFileSystem.view.state l.store);
}

abbrev pub decreases-pieces : goal.decreases-pieces
decreases-pieces g l = l.left
