-- What may be moved.
use Rattle.std.specs.Prelude.{◌==◌, ◌&&◌, List, Bool, not, length, map}
use Rattle.dav_core.specs.declared.tree.Row.{Row}
use Rattle.dav_core.specs.declared.tree.Kind.{Kind}
use Rattle.dav_core.specs.Path.{Names, parent_of, is_front}
use Rattle.dav_core.specs.Tree.{row_at, has_dir}
use Rattle.dav_core.specs.declared.time.FileTime.{FileTime}
use Rattle.dav_core.specs.World.{World}
use Rattle.dav_core.specs.Changes.{yields, timed_row, moved_row, without}

-- whether what stands at a path, of this kind, may be moved to another path
abbrev pub may_move : Kind → List Row → Names → Names → Bool
may_move kind tree from to =
    not (length from == 0)
    && (not (length to == 0)
    && (not (is_front from to) && (has_dir tree (parent_of to) && yields kind (row_at tree to) tree)))

-- The rows of a path are moved to another, and the directory that they leave gets a time.
abbrev pub placed_at : World → Names → Names → FileTime → World
placed_at w from to t =
    record w { tree = map (timed_row (parent_of from) t) (map (moved_row from to) (without to w.tree)); latest = t }

-- The directory above a path gets a time.
abbrev pub touched_above : World → Names → FileTime → World
touched_above w path t = record w { tree = map (timed_row (parent_of path) t) w.tree; latest = t }
