-- Valid runs: what is assumed of the worlds of a trail, and of what the memory knows at entry. (That no link is met is
-- asked beside it, of the path that an answer looks at.)
use Rattle.std.specs.Prelude.{◌≡◌, ◌⊎◌, ◌&&◌, List, [], ◌∷◌, Bool, true, false, not, is_some, Some}
use Rattle.std.specs.List.{AllByRecursion, list_all}
use Rattle.dav_core.specs.declared.time.FileTime.{FileTime}
use Rattle.dav_core.specs.declared.tree.Row.{Row}
use Rattle.dav_core.specs.Path.{Names, same_names, parent_of}
use Rattle.dav_core.specs.Tree.{is_linked}
use Rattle.dav_core.specs.World.{World}
use Rattle.dav_model.specs.Folds.{Name, folds_like, has_name, dir_time}
use Rattle.dav_model.specs.Rules.{Rules, Knowledge, IsSound}
use Rattle.dav_model.specs.Trail.{Point}

-- the two rows are of one directory, and their names fold alike
abbrev pub are_twins : Row → Row → Bool
are_twins a b = same_names (parent_of a.path) (parent_of b.path) && folds_like a.path b.path

-- no two names of a directory fold alike
abbrev pub no_twins : List Row → Bool
no_twins [] = true
no_twins (row ∷ rows) = list_all (λ other. not (are_twins row other)) rows && no_twins rows

abbrev pub Twinless : World → Type 0
Twinless w = no_twins w.tree ≡ true

-- The rules find each path in one place.
abbrev pub TellsApart : Rules → World → Type 0
TellsApart rules w = rules.folds ≡ true → Twinless w

-- The rules do, and what the memory knows of the world is so: it is a world of a valid run.
pub record IsRegular (rules : Rules) (k : Knowledge) (w : World) : Type 0 where
  pub apart : TellsApart rules w
  pub sound : rules.macos ≡ true → IsSound k w

-- a point tells this world
abbrev pub Occurs : World → List Point → Type 0
Occurs w [] = ⊥
Occurs w (s ∷ points) = (s.told ≡ Some w) ⊎ Occurs w points

-- A directory path that has one time in two worlds has the same names in both.
abbrev pub TimesTell : List Point → Type 0
TimesTell points = (v w : World) → Occurs v points → Occurs w points → (dir : Names) (time : FileTime)
    → dir_time v.tree dir ≡ Some time → dir_time w.tree dir ≡ Some time → (x : Name)
    → has_name v.tree dir x ≡ has_name w.tree dir x

-- A directory that stands in one world is behind no link in another.
abbrev pub LinksStay : List Point → Type 0
LinksStay points = (v w : World) → Occurs v points → Occurs w points → (dir : Names) (time : FileTime)
    → dir_time w.tree dir ≡ Some time → is_linked v.tree dir ≡ false

pub record Valid (rules : Rules) (k : Knowledge) (points : List Point) : Type 0 where
  pub told : AllByRecursion (λ (s : Point). is_some s.told ≡ true) points
  pub apart : rules.folds ≡ true → (w : World) → Occurs w points → Twinless w
  pub times : rules.macos ≡ true → TimesTell points
  pub links : rules.macos ≡ true → LinksStay points
  pub sound : rules.macos ≡ true → (w : World) → Occurs w points → IsSound k w
