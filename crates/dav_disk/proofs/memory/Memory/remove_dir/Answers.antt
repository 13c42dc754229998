use Rattle.std.proofs.Common.{◌≡◌, Err}
use Rattle.dav_core.specs.World.{World}
use Rattle.dav_core.specs.Allowed.{taking_dir}
use Rattle.dav_disk.specs.Memory.{known_of}
use Rattle.dav_disk.proofs.Judges.{taking_dir_judged, refused_at}
use Rattle.dav_disk.proofs.memory.Memory.remove_dir.Goals as goal

pub returns-in-Err : goal.returns-in-Err
returns-in-Err c =
    let w : World = (known_of c.args.self.now).world in
    let e : taking_dir w.tree c.args.path.now ≡ Err c.in-Err.e = rw (← c.as_slice.ensures.value) c.in-Err.ensures in
    refused_at (taking_dir w.tree c.args.path.now) (known_of c.args.self.now) c.in-Err.e (taking_dir_judged w.tree c.args.path.now c.in-Err.e e) e
