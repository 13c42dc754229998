use Rattle.dav_disk.proofs.Copies.{same_files}
use Rattle.dav_disk.proofs.drawn.copy_files.Goals as goal

pub returns : goal.returns
returns c = same_files c.args.files.now c.in_ok-clone.field-0 c.in_ok-clone.ensures.cases
