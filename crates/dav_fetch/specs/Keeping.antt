-- Files of a copy in order, those in front being taken away.
use Rattle.std.specs.Prelude.{◌≡◌, ◌-◌, ◌++◌, ◌∷◌, [], List, Bool, true, cond, length, map, slice_get, Option, None, Some}
use Rattle.std.specs.Ordering.{is_lt}
use Rattle.std.specs.List.Sorted.{IsStrictlySortedBy}
use Rattle.std.specs.declared.cmp.Ordering.TheVariants.{Less}
use Rattle.dav_core.specs.Path.{Names}
use Rattle.dav_fetch.specs.declared.copied.Kept.{Kept}
use Rattle.dav_fetch.specs.Copy.{path_cmp}
use Rattle.dav_fetch.specs.Fetching.{kept_at}

abbrev pub AreAscending : List Names → Type 0
AreAscending paths = IsStrictlySortedBy path_cmp paths

abbrev pub AreInOrder : List Kept → Type 0
AreInOrder files = AreAscending (map (λ (f : Kept). f.path) files)

-- What is kept at each path behind this one stays.
abbrev pub KeepsBehind : Names → List Kept → List Kept → Type 0
KeepsBehind path before after = (later : Names) → path_cmp path later ≡ Less → kept_at later after ≡ kept_at later before

-- the path comes behind this one
abbrev pub follows : Option Names → Names → Bool
follows None path = true
follows (Some last) path = is_lt (path_cmp last path)

abbrev pub with_next : Names → List Names → List Names
with_next path paths = cond (follows (slice_get paths (length paths - 1)) path) (paths ++ path ∷ []) paths
