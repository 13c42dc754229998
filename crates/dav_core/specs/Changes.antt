-- What a batch of changes from outside makes of a world.
use Rattle.std.proofs.Common.{refl, ◌∙◌}
use Rattle.std.specs.Prelude.{◌≡◌, ◌==◌, ◌+◌, ◌-◌, ◌&&◌, ◌||◌, ℕ, pos, ◌+ℤ◌, List, [], ◌∷◌, ◌++◌, Bool, true, false, cond, not, length, take, drop, map, replicate, Option, None, Some, Result, Ok, Err, nat_lt, int_lt}
use Rattle.std.specs.List.{filter, list_all}
use Rattle.std.specs.Option.{is_none}
use Rattle.dav_io.specs.Counts.{greatest}
use Rattle.dav_core.specs.declared.tree.Row.{Row}
use Rattle.dav_core.specs.declared.tree.Kind.{Kind}
use Rattle.dav_core.specs.declared.tree.Kind.TheVariants.{Dir, File, Link}
use Rattle.dav_core.specs.declared.time.FileTime.{FileTime}
use Rattle.dav_core.specs.declared.change.Change.{Change}
use Rattle.dav_core.specs.declared.change.Change.TheVariants.{AddDir, AddFile, Cut, Remove, Rename}
use Rattle.dav_core.specs.declared.handle.DiskError.{DiskError}
use Rattle.dav_core.specs.Path.{Names, same_names, parent_of, is_front}
use Rattle.dav_core.specs.Tree.{row_at, look, has_dir, is_dir}
use Rattle.dav_core.specs.World.{World, bytes_of, put}

-- 1000 nanoseconds later, or none where its seconds are past the greatest i64
abbrev pub tick : FileTime → Option FileTime
tick t = cond (nat_lt (t.nanos + 1000) 1000000000)
    (Some (record { secs = t.secs; nanos = t.nanos + 1000 }))
    (cond (int_lt t.secs (pos 9223372036854775807))
    (Some (record { secs = t.secs +ℤ pos 1; nanos = (t.nanos + 1000) - 1000000000 })) None)

-- the row of a path with another time
abbrev pub timed_row : Names → FileTime → Row → Row
timed_row path t row = cond (same_names path row.path) (record row { time = t }) row

-- A directory whose names changed gets a tick of its own.
abbrev pub touched_at : Names → Option FileTime → World → Option World
touched_at path None w = None
touched_at path (Some t) w = Some (record w { tree = map (timed_row path t) w.tree; latest = t })

abbrev pub touched : Names → World → Option World
touched path w = touched_at path (tick w.latest) w

abbrev pub then_touched : Names → Option World → Option World
then_touched path None = None
then_touched path (Some w) = touched path w

-- nothing stands at the path, and a directory at its parent
abbrev pub is_free_in : List Row → Names → Bool
is_free_in tree path = not (length path == 0) && (has_dir tree (parent_of path) && is_none (row_at tree path))

-- a row more, with the next number and a tick of its own
abbrev pub added_at : Names → Kind → Option FileTime → World → Option World
added_at path kind None w = None
added_at path kind (Some t) w = Some (record w {
  tree = w.tree ++ record { path = path; kind = kind; number = w.greatest + 1; time = t } ∷ [];
  greatest = w.greatest + 1;
  latest = t;
})

abbrev pub added : Names → Kind → World → Option World
added path kind w = cond (nat_lt w.greatest greatest) (added_at path kind (tick w.latest) w) None

-- the newest number's bytes, with the time of the world
abbrev pub stored_in : List ℕ → Option World → Option World
stored_in bytes None = None
stored_in bytes (Some w) = Some (record w {
  files = put w.greatest
      (Some (record { bytes = bytes; time = w.latest })) w.files;
})

-- what is made, or where it can't be the world as it was
abbrev pub made_or : World → Option World → World
made_or w None = w
made_or w (Some v) = v

abbrev pub dir_added : World → Names → World
dir_added w path = cond (is_free_in w.tree path) (made_or w (then_touched (parent_of path) (added path Dir w))) w

abbrev pub file_added : World → Names → List ℕ → World
file_added w path bytes = cond (is_free_in w.tree path)
    (made_or w (then_touched (parent_of path) (stored_in bytes (added path File w)))) w

-- the bytes made so long: shortened, or lengthened with zeros
abbrev pub resized : ℕ → List ℕ → List ℕ
resized len bytes = take len bytes ++ replicate (len - length bytes) 0

abbrev pub cut_at_time : Row → ℕ → Option FileTime → World → World
cut_at_time row len None w = w
cut_at_time row len (Some t) w = record w {
  tree = map (timed_row row.path t) w.tree;
  files = put row.number (Some (record { bytes = resized len (bytes_of w row.number); time = t })) w.files;
  latest = t;
}

-- A file gets this length, and a tick where its bytes change.
abbrev pub cut_kind : Kind → Row → ℕ → World → World
cut_kind Dir row len w = w
cut_kind Link row len w = w
cut_kind File row len w = cond (length (bytes_of w row.number) == len) w (cut_at_time row len (tick w.latest) w)

abbrev pub cut_found : Result Row DiskError → ℕ → World → World
cut_found (Ok row) len w = cut_kind row.kind row len w
cut_found (Err e) len w = w

-- the rows that don't stand at the path or below it
abbrev pub without : Names → List Row → List Row
without path tree = filter (λ row. not (is_front path row.path)) tree

-- What stands at a path goes, with all below it. A file that goes keeps its bytes and its time.
abbrev pub removed_found : Result Row DiskError → World → World
removed_found (Err e) w = w
removed_found (Ok row) w = cond (length row.path == 0) w
    (made_or w (touched (parent_of row.path) (record w { tree = without row.path w.tree })))

-- the row of a path that is moved, or that lies below it
abbrev pub moved_row : Names → Names → Row → Row
moved_row from to row = cond (is_front from row.path) (record row { path = to ++ drop (length from) row.path }) row

-- no row lies below the path
abbrev pub is_leaf : Names → List Row → Bool
is_leaf path tree = list_all (λ row. not (is_front path row.path) || same_names path row.path) tree

-- what may stand where something is moved to: nothing, a file under a file, a directory without members under a
-- directory
abbrev pub yields : Kind → Option Row → List Row → Bool
yields kind None tree = true
yields Dir (Some there) tree = is_dir there.kind && is_leaf there.path tree
yields File (Some there) tree = not (is_dir there.kind)
yields Link (Some there) tree = not (is_dir there.kind)

abbrev pub renames_to : World → Row → Names → Bool
renames_to w row to = not (length row.path == 0)
    && (not (length to == 0) && (not (is_front row.path to)
    && (has_dir w.tree (parent_of to) && yields row.kind (row_at w.tree to) w.tree)))

-- from's parent first, then to's, or once if they are one
abbrev pub parents_touched : Names → Names → World → Option World
parents_touched from to w = cond (same_names (parent_of from) (parent_of to)) (touched (parent_of from) w)
    (then_touched (parent_of to) (touched (parent_of from) w))

abbrev pub renamed_found : Result Row DiskError → Names → World → World
renamed_found (Err e) to w = w
renamed_found (Ok row) to w = cond (renames_to w row to)
    (made_or w (parents_touched row.path to (record w { tree = map (moved_row row.path to) (without to w.tree) }))) w

-- A change is made, or skipped where the tree doesn't allow it or no number or tick is left.
abbrev pub changed : World → Change → World
changed w (AddDir path) = dir_added w path
changed w (AddFile path bytes) = file_added w path bytes
changed w (Cut path len) = cut_found (look w.tree path) len w
changed w (Remove path) = removed_found (look w.tree path) w
changed w (Rename from to) = renamed_found (look w.tree from) to w

abbrev pub all_changed : World → List Change → World
all_changed w [] = w
all_changed w (change ∷ changes) = all_changed (changed w change) changes

-- the script's first batch is made
abbrev pub turned_by : World → List (List Change) → World
turned_by w [] = w
turned_by w (batch ∷ batches) = all_changed (record w { script = batches }) batch

abbrev pub turned : World → World
turned w = turned_by w w.script
