-- Disks of which a book is true, and sessions over them that write nothing.
use Rattle.std.specs.Prelude.{◌≡◌, ◌<◌, ◌^◌, List, [], ◌∷◌, codes, length, true, Some}
use Rattle.std.specs.List.{AllByRecursion}
use Rattle.dav_core.specs.declared.time.FileTime.{FileTime}
use Rattle.dav_core.specs.declared.tree.Row.{Row}
use Rattle.dav_core.specs.declared.tree.Kind.TheVariants.{Dir, File}
use Rattle.dav_core.specs.Disk.{DiskState}
use Rattle.dav_core.specs.Path.{is_plain}
use Rattle.dav_core.specs.World.{World}
use Rattle.dav_disk.specs.Rows.{at_second, can_be_set, root_row}
use Rattle.dav_model.specs.Folds.{Name}
use Rattle.dav_model.specs.declared.step.Step.{Step}
use Rattle.dav_model.specs.Rules.{Rules}
use Rattle.dav_model.specs.Still.{is_quiet}
use Rattle.dav_sessions.specs.Sessions.{IsStill}
use Rattle.dav_shared.specs.Books.{one_book}

-- the root, the directory `/d` of this time, and in it a file of this name
abbrev pub told_tree : FileTime → Name → List Row
told_tree time name = root_row ∷ record { path = codes "d" ∷ []; kind = Dir; number = 2; time = time }
    ∷ record { path = codes "d" ∷ name ∷ []; kind = File; number = 3; time = time } ∷ []

-- A disk can have them, and the book is true of it: at 1 s it tells `._a` of `/d`, and at no other time anything.
pub record CanBeTold (time : FileTime) (name : Name) : Type 0 where
  pub set : can_be_set time ≡ true
  pub plain : is_plain name ≡ true
  pub book : time ≡ at_second 1 → name ≡ codes "._a"

-- A disk tells this tree, and nothing is to change it.
pub record TellsTree (time : FileTime) (name : Name) (s : DiskState) : Type 0 where
  pub world : World
  pub told : s.told ≡ Some world
  pub tree : world.tree ≡ told_tree time name
  pub script : world.script ≡ []

-- By whatever settings, the step writes nothing.
abbrev pub IsQuiet : Step → Type 0
IsQuiet step = (rules : Rules) → is_quiet rules step ≡ true

-- No step writes, and a player can answer them.
pub record AreQuiet (steps : List Step) : Type 0 where
  pub quiet : AllByRecursion IsQuiet steps
  pub room : length steps < 2 ^ 32

-- The book of folder 1 is true of the disk, nothing is to change it, and no step writes.
pub record IsToldOf (s : DiskState) (steps : List Step) : Type 0 where
  pub still : (rules : Rules) → IsStill (one_book 1) rules s steps
  pub room : length steps < 2 ^ 32
