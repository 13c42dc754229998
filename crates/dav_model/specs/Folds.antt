-- Names that fold alike, and the names of a directory.
use Rattle.std.specs.Prelude.{◌==◌, ◌&&◌, ℕ, Bool, false, List, [], ◌∷◌, map, chars, encode_utf8_all, Option, None, Some, Result, Ok, Err, cond}
use Rattle.std.specs.List.{list_any, filter_map}
use Rattle.std.specs.Str.{bytes_eq}
use Rattle.dav_core.specs.declared.tree.Row.{Row}
use Rattle.dav_core.specs.declared.time.FileTime.{FileTime}
use Rattle.dav_core.specs.Path.{Names, same_names}
use Rattle.dav_core.specs.declared.handle.DiskError.{DiskError}
use Rattle.dav_core.specs.Tree.{look, is_dir}
use Rattle.caseless.specs.Caseless.{default_case_fold}

abbrev pub Name : Type 0
Name = List ℕ

-- full case folding, of a name and of each name of a path
abbrev pub fold_name : Name → Name
fold_name name = encode_utf8_all (default_case_fold (chars name))

abbrev pub fold_path : Names → Names
fold_path path = map fold_name path

abbrev pub folds_like : Names → Names → Bool
folds_like a b = same_names (fold_path a) (fold_path b)

-- names begin with `._` that clients of macOS ask for beside every name
abbrev pub is_dot : Name → Bool
is_dot [] = false
is_dot (a ∷ []) = false
is_dot (a ∷ b ∷ rest) = (a == 46) && (b == 95)

-- the last name of a path, where all names before it are those of the directory
abbrev pub member_name : Names → Names → Option Name
member_name [] [] = None
member_name [] (name ∷ []) = Some name
member_name [] (name ∷ next ∷ path) = None
member_name (d ∷ dir) [] = None
member_name (d ∷ dir) (name ∷ path) = cond (bytes_eq d name) (member_name dir path) None

-- the names in a directory
abbrev pub names_in : List Row → Names → List Name
names_in tree dir = filter_map (λ row. member_name dir row.path) tree

abbrev pub has_name : List Row → Names → Name → Bool
has_name tree dir name = list_any (bytes_eq name) (names_in tree dir)

abbrev pub dir_time_of : Result Row DiskError → Option FileTime
dir_time_of (Err e) = None
dir_time_of (Ok row) = cond (is_dir row.kind) (Some row.time) None

-- the time of a directory, where one stands at the path
abbrev pub dir_time : List Row → Names → Option FileTime
dir_time tree dir = dir_time_of (look tree dir)
