-- Which edit of a tree a writing call may make, or what it is refused with, by the first rule that fits.
use Rattle.std.specs.Prelude.{◌==◌, ◌&&◌, ◌||◌, ◌++◌, List, [], ◌∷◌, length, Bool, false, cond, Option, None, Some, Result, Ok, Err}
use Rattle.dav_core.specs.declared.tree.Row.{Row}
use Rattle.dav_core.specs.declared.tree.Kind.{Kind}
use Rattle.dav_core.specs.declared.tree.Kind.TheVariants.{Dir, File, Link}
use Rattle.dav_core.specs.declared.handle.OpenOptions.{OpenOptions}
use Rattle.dav_core.specs.declared.handle.DiskError.{DiskError}
use Rattle.dav_core.specs.declared.handle.DiskError.TheVariants.{NotFound, Exists, NotDir, IsDir, NotEmpty}
use Rattle.dav_core.specs.Path.{Names, same_names, is_front}
use Rattle.dav_core.specs.Tree.{look, row_at, is_dir, is_file}
use Rattle.dav_core.specs.World.{World, bytes_of}
use Rattle.dav_core.specs.Changes.{is_leaf}
use Rattle.dav_core.specs.Edits.{Edit, makes, fills, takes, moves}

-- An edit, or none where there is nothing to change; or the refusal.
abbrev pub Allowed : Type 0
Allowed = Result (Option Edit) DiskError

-- ---- what a call finds

-- what is found below a row of this kind
abbrev pub through_kind : Kind → Result (Option Row) DiskError → Result (Option Row) DiskError
through_kind Dir found = found
through_kind File found = Err NotDir
through_kind Link found = Err NotDir

abbrev pub through : Option Row → Result (Option Row) DiskError → Result (Option Row) DiskError
through None found = Err NotFound
through (Some row) found = through_kind row.kind found

abbrev pub place_from : List Row → Names → Names → Result (Option Row) DiskError
place_from tree at [] = Ok (row_at tree at)
place_from tree at (name ∷ names) = through (row_at tree at) (place_from tree (at ++ name ∷ []) names)

-- What stands at a path, or nothing; or what every call on the path is refused with: the first place before its last
-- name that is no directory decides.
abbrev pub place : List Row → Names → Result (Option Row) DiskError
place tree path = place_from tree [] path

-- what is judged of a row that was found
abbrev pub found_then : (Row → Allowed) → Result Row DiskError → Allowed
found_then judge (Ok row) = judge row
found_then judge (Err e) = Err e

-- ---- making and taking

abbrev pub making_at : Result (Option Row) DiskError → Names → Allowed
making_at (Err e) path = Err e
making_at (Ok (Some row)) path = Err Exists
making_at (Ok None) path = Ok (Some (makes path Dir []))

-- a directory is made where nothing stands
abbrev pub making_dir : List Row → Names → Allowed
making_dir tree path = making_at (place tree path) path

abbrev pub is_root : Names → Bool
is_root path = length path == 0

-- a directory that may go has no members, and isn't the root
abbrev pub may_go : List Row → Row → Bool
may_go tree row = cond (is_root row.path) false (is_leaf row.path tree)

abbrev pub taking_dir_row : List Row → Row → Allowed
taking_dir_row tree row = cond (is_dir row.kind)
    (cond (may_go tree row) (Ok (Some (takes row.path))) (Err NotEmpty)) (Err NotDir)

abbrev pub taking_dir : List Row → Names → Allowed
taking_dir tree path = found_then (taking_dir_row tree) (look tree path)

abbrev pub taking_file_row : Row → Allowed
taking_file_row row = cond (is_dir row.kind) (Err IsDir) (Ok (Some (takes row.path)))

abbrev pub taking_file : List Row → Names → Allowed
taking_file tree path = found_then taking_file_row (look tree path)

-- ---- moving and copying

-- a directory goes in place of a directory without members, and a file in place of a file
abbrev pub moving_over : List Row → Row → Names → Option Row → Allowed
moving_over tree row to None = Ok (Some (moves row.path to))
moving_over tree row to (Some there) = cond (is_dir row.kind)
    (cond (is_dir there.kind) (cond (is_leaf there.path tree) (Ok (Some (moves row.path to))) (Err NotEmpty))
    (Err NotDir))
    (cond (is_dir there.kind) (Err IsDir) (Ok (Some (moves row.path to))))

-- The root isn't moved, nor is anything moved to it or into itself; onto itself it stays.
abbrev pub moving_to : List Row → Row → Names → Result (Option Row) DiskError → Allowed
moving_to tree row to (Err e) = Err e
moving_to tree row to (Ok there) = cond (is_root row.path || is_root to) (Err NotEmpty)
    (cond (same_names row.path to) (Ok None)
    (cond (is_front row.path to) (Err NotEmpty) (moving_over tree row to there)))

-- What stands at `from` is judged before what stands at `to`.
abbrev pub moving : List Row → Names → Names → Allowed
moving tree from to = found_then (λ row. moving_to tree row to (place tree to)) (look tree from)

abbrev pub copying_over : World → Row → Names → Option Row → Allowed
copying_over w row to None = Ok (Some (makes to File (bytes_of w row.number)))
copying_over w row to (Some there) = cond (is_dir there.kind) (Err IsDir)
    (cond (same_names row.path to) (Ok None) (Ok (Some (fills there.number (bytes_of w row.number)))))

abbrev pub copying_to : World → Row → Names → Result (Option Row) DiskError → Allowed
copying_to w row to (Err e) = Err e
copying_to w row to (Ok there) = cond (is_dir row.kind) (Err IsDir) (copying_over w row to there)

-- a file's bytes are copied; what stands at `to` keeps its number
abbrev pub copying : World → Names → Names → Allowed
copying w from to = found_then (λ row. copying_to w row to (place w.tree to)) (look w.tree from)

-- ---- opening

-- what stands there is left, or emptied
abbrev pub opening_row : OpenOptions → Row → Allowed
opening_row how row = cond how.create_new (Err Exists)
    (cond (is_dir row.kind && (how.write || how.append)) (Err IsDir)
    (Ok (cond (is_file row.kind && (how.write && how.truncate)) (Some (fills row.number [])) None)))

abbrev pub opening_at : OpenOptions → Names → Result (Option Row) DiskError → Allowed
opening_at how path (Err e) = Err e
opening_at how path (Ok (Some row)) = opening_row how row
opening_at how path (Ok None) = cond (how.create || how.create_new) (Ok (Some (makes path File []))) (Err NotFound)

abbrev pub opening : List Row → Names → OpenOptions → Allowed
opening tree path how = opening_at how path (place tree path)
