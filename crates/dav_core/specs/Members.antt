-- The members of a directory, as far as a page shows them.
use Rattle.std.specs.Prelude.{List, length, map}
use Rattle.std.specs.List.{filter}
use Rattle.dav_core.specs.declared.member.Member.{Member}
use Rattle.dav_core.specs.declared.tree.Row.{Row}
use Rattle.dav_core.specs.Info.{known_time}
use Rattle.dav_core.specs.Listing.{name_of, stands_in}
use Rattle.dav_core.specs.Path.{Names}
use Rattle.dav_core.specs.World.{World, bytes_of}

-- what is shown of what stands in a row of the tree
abbrev pub member_of : World → Row → Member
member_of w row = record {
  name = name_of row;
  kind = row.kind;
  len = length (bytes_of w row.number);
  modified = known_time row.time;
}

-- the members of the directory at a path of a world
abbrev pub members : World → Names → List Member
members w dir = map (member_of w) (filter (stands_in dir) w.tree)
