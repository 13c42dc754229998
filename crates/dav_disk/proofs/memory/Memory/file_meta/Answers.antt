use Rattle.std.proofs.Common.{ap, length}
use Rattle.dav_disk.specs.Files.{open_of}
use Rattle.dav_disk.proofs.Opened.{at_map}
use Rattle.std.proofs.Common.{refl}
use Rattle.dav_disk.proofs.memory.Memory.file_meta.Goals as goal

pub returns-clause-found : goal.returns-clause-found
returns-clause-found c = (
  open_of c.open_file-opened.result,
  at_map open_of _ _ c.open_file-opened.ensures,
  refl,
  ap length c.bytes_at.ensures,
  c.modified.ensures,
)
