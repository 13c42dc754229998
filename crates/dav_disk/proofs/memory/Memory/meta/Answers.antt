use Rattle.std.proofs.Common.{ap, length, ◌∙◌}
use Rattle.dav_disk.specs.Files.{stored_at}
use Rattle.dav_disk.proofs.DirsStay.{found_bare}
use Rattle.dav_disk.proofs.memory.Memory.meta.Goals as goal

pub returns-clause-dirs : goal.returns-clause-dirs
returns-clause-dirs c = λ dir. ap length c.bytes_at.ensures ∙ found_bare c.args.self.now.rows (stored_at c.args.self.now.files) _ c.in-Ok.row.now c.args.self.now.bare c.in-Ok.ensures.found dir
