use Rattle.std.proofs.Common.{◌≡◌, Err}
use Rattle.dav_core.specs.World.{World}
use Rattle.dav_core.specs.Allowed.{taking_file}
use Rattle.dav_disk.specs.Memory.{known_of}
use Rattle.dav_disk.proofs.Judges.{taking_file_judged, refused_at}
use Rattle.dav_disk.proofs.memory.Memory.remove_file.Goals as goal

pub returns-in-Err : goal.returns-in-Err
returns-in-Err c =
    let w : World = (known_of c.args.self.now).world in
    let e : taking_file w.tree c.args.path.now ≡ Err c.in-Err.e = rw (← c.as_slice.ensures.value) c.in-Err.ensures in
    refused_at (taking_file w.tree c.args.path.now) (known_of c.args.self.now) c.in-Err.e (taking_file_judged w.tree c.args.path.now c.in-Err.e e) e
