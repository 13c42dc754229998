-- Trees of files, as the caches see them.
use Rattle.std.specs.Prelude.{ℕ, Bool, true, false, ◌==◌, ◌&&◌, nat_eq, List, [], ◌∷◌, map, Option, Some, None, is_some, if◌then◌else◌, chars, encode_utf8_all, filter}
use Rattle.std.specs.Cmp.Lexicographic.{pointwise, slice_cmp}
use Rattle.std.specs.Ordering.{nat_cmp, is_lt, int_eq}
use Rattle.std.specs.List.{list_any, filter_map}
pub use Rattle.dav_core.specs.declared.time.FileTime.{FileTime}
pub use Rattle.dav_core.specs.declared.tree.Row.{Row}
pub use Rattle.dav_core.specs.Path.{Names}
use Rattle.dav_core.specs.Tree.{row_at, is_dir}
use Rattle.caseless.specs.Caseless.{default_case_fold}

-- a name is its bytes; a path is its names from the root on
abbrev pub Name : Type 0
Name = List ℕ

abbrev pub same_name : Name → Name → Bool
same_name = pointwise nat_eq

abbrev pub same_path : Names → Names → Bool
same_path = pointwise (pointwise nat_eq)

-- names stand in the order of their bytes
abbrev pub is_less : Name → Name → Bool
is_less a b = is_lt (slice_cmp nat_cmp a b)

-- the name begins with `._`
abbrev pub is_dot : Name → Bool
is_dot [] = false
is_dot (a ∷ []) = false
is_dot (a ∷ b ∷ rest) = (a == 46) && (b == 95)

-- full case folding, of a name and of each name of a path
unfoldable pub fold_name : Name → Name
fold_name name = encode_utf8_all (default_case_fold (chars name))

unfoldable pub fold_path : Names → Names
fold_path path = map fold_name path

abbrev pub same_time : FileTime → FileTime → Bool
same_time a b = int_eq a.secs b.secs && (a.nanos == b.nanos)

abbrev pub Tree : Type 0
Tree = List Row

-- whether a row stands at the path
abbrev pub has_row : Tree → Names → Bool
has_row tree path = is_some (row_at tree path)

abbrev pub time_of_row : Option Row → Option FileTime
time_of_row None = None
time_of_row (Some row) = if is_dir row.kind then Some row.time else None

-- the time of a directory, where one stands at the path
abbrev pub time_of : Tree → Names → Option FileTime
time_of tree dir = time_of_row (row_at tree dir)

-- the last name of a path, where all names before it are those of the directory
abbrev pub member_name : Names → Names → Option Name
member_name [] [] = None
member_name [] (name ∷ []) = Some name
member_name [] (name ∷ next ∷ path) = None
member_name (d ∷ dir) [] = None
member_name (d ∷ dir) (name ∷ path) = if same_name d name then member_name dir path else None

-- the names in a directory
abbrev pub names_in : Tree → Names → List Name
names_in tree dir = filter_map (λ row. member_name dir row.path) tree

abbrev pub has_name : Tree → Names → Name → Bool
has_name tree dir name = list_any (same_name name) (names_in tree dir)

-- the name comes after the last one, if there was one
abbrev pub is_after : Option Name → Name → Bool
is_after None name = true
is_after (Some last) name = is_less last name

abbrev pub lesser : Name → Option Name → Name
lesser a None = a
lesser a (Some b) = if is_less a b then a else b

abbrev pub least : List Name → Option Name
least [] = None
least (name ∷ names) = Some (lesser name (least names))

-- the least name of the directory that comes after the last one
abbrev pub next_name : Tree → Names → Option Name → Option Name
next_name tree dir last = least (filter (is_after last) (names_in tree dir))

-- the least so far, with one more name where it comes after the last one
abbrev pub with_name : Option Name → Option Name → Option Name → Option Name
with_name last None best = best
with_name last (Some name) best = if is_after last name then Some (lesser name best) else best
