-- A disk that tells nothing tells nothing wrong: a law that such disks cite.
use Rattle.std.specs.Prelude.{◌≡◌, None, Some}
use Rattle.dav_core.specs.Disk.{DiskState, TellsLive}

pub untold_live : (s : DiskState) → s.told ≡ None → TellsLive s
untold_live s none = record {
  opens = λ w e h. cc;
  listings = λ w e l. cc;
}
