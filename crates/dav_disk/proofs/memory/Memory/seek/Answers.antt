use Rattle.dav_disk.specs.Files.{open_of}
use Rattle.dav_disk.proofs.Opened.{at_map}
use Rattle.dav_disk.proofs.memory.Memory.seek.Goals as goal

pub returns : goal.returns
returns c = (open_of c.open_file-opened.result, at_map open_of _ _ c.open_file-opened.ensures, c.move_open.ensures)
