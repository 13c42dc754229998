-- Trees as lists of rows: what stands at a path, and what a call on a path is refused with.
use Rattle.std.specs.Prelude.{◌≡◌, ◌==◌, ◌&&◌, ◌||◌, List, [], ◌∷◌, ◌++◌, Bool, true, false, cond, not, length, Option, None, Some, Result, Ok, Err, refl}
use Rattle.std.proofs.Common.{sym, ap, ◌∙◌, inl, inr, ◌⊎◌}
use Rattle.std.specs.List.{find, list_any, list_all}
use Rattle.dav_core.specs.declared.tree.Row.{Row}
use Rattle.dav_core.specs.declared.tree.Kind.{Kind}
use Rattle.dav_core.specs.declared.tree.Kind.TheVariants.{Dir, File, Link}
use Rattle.dav_core.specs.declared.handle.DiskError.{DiskError}
use Rattle.dav_core.specs.declared.handle.DiskError.TheVariants.{NotFound, NotDir}
use Rattle.dav_core.specs.Path.{Names, same_names, parent_of, is_front}

abbrev pub is_dir : Kind → Bool
is_dir Dir = true
is_dir File = false
is_dir Link = false

abbrev pub is_file : Kind → Bool
is_file Dir = false
is_file File = true
is_file Link = false

abbrev pub is_link : Kind → Bool
is_link Dir = false
is_link File = false
is_link Link = true

-- the row at a path
abbrev pub row_at : List Row → Names → Option Row
row_at tree path = find (λ row. same_names path row.path) tree

abbrev pub is_dir_row : Option Row → Bool
is_dir_row None = false
is_dir_row (Some row) = is_dir row.kind

-- whether a directory stands at a path
abbrev pub has_dir : List Row → Names → Bool
has_dir tree path = is_dir_row (row_at tree path)

-- A row has its place: the empty path is a directory, and the parent of each other path is a directory of the tree.
abbrev pub is_placed : List Row → Row → Bool
is_placed tree row = cond (length row.path == 0) (is_dir row.kind) (has_dir tree (parent_of row.path))

-- no row has this path or this number
abbrev pub is_free : List Row → Row → Bool
is_free tree row = list_all (λ other. not (same_names other.path row.path) && not (other.number == row.number)) tree

-- no path and no number stands twice
abbrev pub is_apart : List Row → Bool
is_apart [] = true
is_apart (row ∷ rows) = is_free rows row && is_apart rows

-- The rows are a tree.
abbrev pub is_tree : List Row → Bool
is_tree rows = has_dir rows [] && (list_all (is_placed rows) rows && is_apart rows)

-- A symbolic link stands on the way to a path, or at it. Of such a path calls say nothing but what a look at a link itself finds.
abbrev pub is_linked : List Row → Names → Bool
is_linked tree path = list_any (λ row. is_link row.kind && is_front row.path path) tree

-- the row, or what the call is refused with
abbrev pub standing : Option Row → Result Row DiskError
standing None = Err NotFound
standing (Some row) = Ok row

-- what is found below a row of this kind
abbrev pub below_kind : Kind → Result Row DiskError → Result Row DiskError
below_kind Dir found = found
below_kind File found = Err NotDir
below_kind Link found = Err NotDir

abbrev pub below : Option Row → Result Row DiskError → Result Row DiskError
below None found = Err NotFound
below (Some row) found = below_kind row.kind found

-- Walks on from a path. The first place before the last name that is no directory decides.
abbrev pub look_from : List Row → Names → Names → Result Row DiskError
look_from tree at [] = standing (row_at tree at)
look_from tree at (name ∷ names) = below (row_at tree at) (look_from tree (at ++ name ∷ []) names)

-- what stands at a path, or what every call on the path is refused with
abbrev pub look : List Row → Names → Result Row DiskError
look tree path = look_from tree [] path

-- a walk is refused for what stands in the tree
abbrev pub IsTreeRefusal : DiskError → Type 0
IsTreeRefusal e = (e ≡ NotFound) ⊎ (e ≡ NotDir)
