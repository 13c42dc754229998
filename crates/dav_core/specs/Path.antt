-- Paths as lists of plain names.
use Rattle.std.specs.Prelude.{◌==◌, ◌-◌, ◌||◌, ◌&&◌, ℕ, List, Bool, length, take, not, codes}
use Rattle.std.specs.List.{list_any, list_all}
use Rattle.std.specs.Str.{bytes_eq}
use Rattle.std.specs.Cmp.Lexicographic.{pointwise}

-- a path: its names, each the list of its bytes
abbrev pub Names : Type 0
Names = List (List ℕ)

-- a slash or NUL
abbrev pub parts_names : ℕ → Bool
parts_names b = b == 47 || b == 0

abbrev pub is_dots : List ℕ → Bool
is_dots name = bytes_eq name (codes ".") || bytes_eq name (codes "..")

-- a nonempty name without slash and NUL that is neither `.` nor `..`
abbrev pub is_plain : List ℕ → Bool
is_plain name = not (length name == 0) && (not (list_any parts_names name) && not (is_dots name))

abbrev pub all_plain : Names → Bool
all_plain names = list_all is_plain names

abbrev pub same_names : Names → Names → Bool
same_names a b = pointwise bytes_eq a b

-- the path without its last name
abbrev pub parent_of : Names → Names
parent_of path = take (length path - 1) path

-- whether the first path is the front of the second, or is equal to it
abbrev pub is_front : Names → Names → Bool
is_front front path = same_names front (take (length front) path)
