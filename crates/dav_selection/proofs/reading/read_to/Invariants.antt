use Rattle.std.proofs.Common.{◌≡◌, ◌+◌, length, vec_len, Some}
use Rattle.dav_store.specs.Standing.{Seen}
use Rattle.dav_selection.specs.Pieces.{InPieces, ReadSoFar, Touches}
use Rattle.dav_selection.proofs.reading.read_to.Given as goal

abbrev pub invariant-pieces : goal.invariant-pieces
invariant-pieces g l = record {
  touches : Touches g.S.GuardedFileSystem.view l.initial.fs l.initial.file l.fs l.file;
  reads_from : g.S.GuardedFileSystem.view.file.reads_from l.file (g.S.GuardedFileSystem.view.state l.fs);
  room : vec_len l.buffer ≡ 16384;
  pieces : InPieces g.S.GuardedFileSystem.view l.len l.initial.fs l.initial.file (length l.bytes.items) l.fs l.file;
  count : length l.bytes.items + l.left ≡ l.len;
  told : (f : Seen) → g.S.GuardedFileSystem.view.file.seen l.initial.file (g.S.GuardedFileSystem.view.state l.initial.fs) ≡ Some f
      → ReadSoFar g.S.GuardedFileSystem.view f l.bytes.items l.fs l.file;
}

abbrev pub decreases-pieces : goal.decreases-pieces
decreases-pieces g l = l.left
