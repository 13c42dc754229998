-- What the disks in memory tell.
use Rattle.dav_disk.specs.Files.{stored_at, open_at, live_at}
use Rattle.dav_disk.specs.Listings.{listing_at}
use Rattle.dav_disk.specs.Calls.{Known}
use Rattle.dav_disk.specs.declared.memory.Memory.{Memory}
use Rattle.std.specs.Prelude.{◌<◌, ◌+ℤ◌, ◌<ℤ◌, pos}
use Rattle.dav_io.specs.Counts.{greatest}
use Rattle.dav_core.specs.World.{World}

abbrev pub known_of : Memory → Known
known_of m = record {
  world = record {
    tree = m.rows;
    files = stored_at m.files;
    opens = open_at m.opens;
    listings = listing_at m.listings;
    greatest = m.greatest;
    latest = m.latest;
    script = m.script.items;
  };
  live = live_at m.opens;
}

-- ---- whether numbers and times are left that a disk in memory gives

-- A next number is left, and two seconds of ticks, which is more than a call needs.
pub record HasRoom (w : World) : Type 0 where
  pub numbers : w.greatest < greatest
  pub times : (w.latest.secs +ℤ pos 2) <ℤ pos 9223372036854775807
