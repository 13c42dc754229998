use Rattle.std.proofs.Common.{◌≡◌, length}
use Rattle.dav_store.specs.View.{StaysBy}
use Rattle.dav_upload.specs.Pieces.{KeepsUpload}
use Rattle.dav_put.proofs.Poured.{SoFar}
use Rattle.dav_put.proofs.storing.pour.Given as goal

abbrev pub invariant-pieces : goal.invariant-pieces
invariant-pieces g l = record {
  far : SoFar g.S.GuardedFileSystem.view g.S.File.DavFile.view.writes l._pieces
      (record { store = l.initial.fs; upload = l.initial.upload; source = g.R.Source.stream l.initial.source })
      (record { store = l.fs; upload = l.upload; source = g.R.Source.stream l.source });
  stays : StaysBy g.S.GuardedFileSystem.view
      (KeepsUpload (g.S.GuardedFileSystem.view.file.handle l.initial.upload.file) (g.S.GuardedFileSystem.view.file.handle l.upload.file)) l.initial.fs l.fs;
  reads_from : g.S.GuardedFileSystem.view.file.reads_from l.upload.file (g.S.GuardedFileSystem.view.state l.fs);
  room : length l.buffer ≡ length l.initial.buffer;
}
