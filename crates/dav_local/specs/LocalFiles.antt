-- What an open file of a local store is, and what its calls answer.
use Rattle.std.specs.Prelude.{◌≡◌}
use Rattle.dav_store.specs.FileView.{FileView}
use Rattle.dav_local.specs.declared.file.LocalFsFile.{LocalFsFile}
use Rattle.dav_local.specs.Files.{seen_by}
use Rattle.dav_local.specs.Writing.{WritesAll}

-- It is the disk's: it may be moved, read and written at any time, and each move and each read asks one call. It keeps
-- nothing itself.
abbrev pub local_file : FileView LocalFsFile
local_file = record {
  handle = λ f. f.handle.0;
  seen = seen_by;
  writes = λ f s from result g t. WritesAll f.handle.0 s from result t × (g ≡ f);
  reads_from = λ _ _. Unit {0};
  asks_once = Unit {0};
  becomes = λ _ _. Unit {0};
  becomes_same = λ _. tt;
  becomes_then = λ _ _ _ _ _. tt;
}
