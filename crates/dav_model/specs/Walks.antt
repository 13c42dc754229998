-- The order in which a removal comes to what stands at and below a path: names by their bytes, paths name by name.
use Rattle.std.specs.Prelude.{◌==◌, ◌&&◌, ◌||◌, ℕ, nat_lt, List, [], ◌∷◌, Bool, true, false, cond}
use Rattle.std.specs.List.{filter}
use Rattle.std.specs.Str.{bytes_eq}
use Rattle.dav_core.specs.Path.{Names, is_front}
use Rattle.dav_core.specs.declared.tree.Row.{Row}

-- whether a name stands before another
abbrev pub name_before : List ℕ → List ℕ → Bool
name_before [] [] = false
name_before [] (b ∷ y) = true
name_before (a ∷ x) [] = false
name_before (a ∷ x) (b ∷ y) = nat_lt a b || ((a == b) && name_before x y)

-- A directory comes before its members.
abbrev pub dir_first : Names → Names → Bool
dir_first [] [] = false
dir_first [] (b ∷ y) = true
dir_first (a ∷ x) [] = false
dir_first (a ∷ x) (b ∷ y) = name_before a b || (bytes_eq a b && dir_first x y)

-- A directory comes after its members.
abbrev pub members_first : Names → Names → Bool
members_first [] [] = false
members_first [] (b ∷ y) = false
members_first (a ∷ x) [] = true
members_first (a ∷ x) (b ∷ y) = name_before a b || (bytes_eq a b && members_first x y)

-- a row put before the first that comes after it
abbrev pub put_by : (Names → Names → Bool) → Row → List Row → List Row
put_by before row [] = row ∷ []
put_by before row (next ∷ rows) = cond (before row.path next.path) (row ∷ next ∷ rows) (next ∷ put_by before row rows)

abbrev pub in_order : (Names → Names → Bool) → List Row → List Row
in_order before [] = []
in_order before (row ∷ rows) = put_by before row (in_order before rows)

-- the rows at a path and below it, in this order
abbrev pub walk : (Names → Names → Bool) → Names → List Row → List Row
walk before path tree = in_order before (filter (λ row. is_front path row.path) tree)
