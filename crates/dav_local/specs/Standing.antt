-- What stands at a path of a world, as a local store tells it.
use Rattle.std.specs.Prelude.{◌≡◌, ◌&&◌, ℕ, List, Bool, false, not, length, None, Some, Option, Result, Ok, Err, if◌then◌else◌}
use Rattle.std.specs.List.{AllByRecursion, filter}
use Rattle.std.specs.Option.{option_map}
use Rattle.dav_core.specs.declared.error.FsError.{FsError}
use Rattle.dav_core.specs.declared.error.FsError.TheVariants.{Forbidden}
use Rattle.dav_core.specs.declared.handle.DiskError.{DiskError}
use Rattle.dav_core.specs.declared.time.FileTime.{FileTime}
use Rattle.dav_core.specs.declared.tree.Kind.{Kind}
use Rattle.dav_core.specs.declared.tree.Row.{Row}
use Rattle.dav_core.specs.Disk.{DiskState, Live}
use Rattle.dav_core.specs.Errors.{fs_error_of}
use Rattle.dav_core.specs.Info.{known, tag_of}
use Rattle.dav_core.specs.Listing.{stands_in}
use Rattle.dav_core.specs.Path.{Names}
use Rattle.dav_core.specs.Tree.{is_dir, is_linked}
use Rattle.dav_core.specs.World.{World, OpenFile, bytes_of, time_of}
use Rattle.dav_store.specs.Standing.{Standing, Seen}

-- a file or directory of this kind, number, time and these bytes, which sends clients nowhere
abbrev pub standing_as : Kind → ℕ → Option FileTime → List ℕ → Standing
standing_as kind number time bytes = record {
  number = number;
  kind = kind;
  len = length bytes;
  modified = known time;
  tag = tag_of kind number (length bytes) (known time);
  bytes = bytes;
  redirect = None;
}

abbrev pub standing_of : World → Row → Standing
standing_of w row = standing_as row.kind row.number (Some row.time) (bytes_of w row.number)

-- a final slash is for directories alone
abbrev pub under_slash : {A : Type 0} → Bool → Kind → A → Result A FsError
under_slash slash kind there = if slash && not (is_dir kind) then Err Forbidden else Ok there

abbrev pub found : World → Bool → Result Row DiskError → Result Standing FsError
found w slash (Ok row) = under_slash slash row.kind (standing_of w row)
found w slash (Err e) = Err (fs_error_of e)

-- an open file of this kind, as the world has it
abbrev pub seen_in : World → Kind → OpenFile → Seen
seen_in w kind o = record {
  stands = standing_as kind o.number (time_of w o.number) (bytes_of w o.number);
  place = o.place;
}

abbrev pub seen_with : Option World → Option Live → ℕ → Option Seen
seen_with None live h = None
seen_with (Some w) None h = None
seen_with (Some w) (Some l) h = option_map (seen_in w l.kind) (w.opens h)

-- the open file of a handle, where it is told
abbrev pub seen_at : DiskState → ℕ → Option Seen
seen_at s h = seen_with s.told (s.live h) h

-- No link stands on the way to a directory or at one of its members.
pub record HasNoLinks (w : World) (dir : Names) : Type 0 where
  pub way : is_linked w.tree dir ≡ false
  pub rows : AllByRecursion (λ row. is_linked w.tree row.path ≡ false) (filter (stands_in dir) w.tree)
