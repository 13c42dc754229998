-- The directories that a page names, beside their names.
use Rattle.std.specs.Prelude.{◌≡◌, ℕ, List, [], ◌∷◌, ◌++◌}
use Rattle.std.specs.BTreeSet.{BTreeSet, contains}
use Rattle.std.specs.Cmp.Lexicographic.{slice_cmp}
use Rattle.std.specs.Ordering.{nat_cmp}
use Rattle.dav_core.specs.Path.{Names}
use Rattle.dav_fetch.specs.Walk.{is_among}

-- A member of the directory is among these paths exactly where its name is among these names.
abbrev pub AreNamed : Names → List Names → BTreeSet (List ℕ) → Type 0
AreNamed dir paths names = (name : List ℕ) → is_among (dir ++ name ∷ []) paths ≡ contains (slice_cmp nat_cmp) names name
