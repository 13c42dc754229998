-- Runs over a world that stands still, by a memory whose knowledge is that of a book.
use Rattle.std.specs.Prelude.{◌≡◌, Bool, true, false, not, [], Some}
use Rattle.dav_core.specs.declared.time.FileTime.{FileTime}
use Rattle.dav_core.specs.Path.{Names}
use Rattle.dav_core.specs.Tree.{is_linked}
use Rattle.dav_core.specs.World.{World, SameBesidesOpens}
use Rattle.dav_model.specs.declared.step.Step.{Step}
use Rattle.dav_model.specs.declared.step.Step.TheVariants.{Request, Poll, Abandon, Purge, Turn}
use Rattle.dav_model.specs.Folds.{Name, dir_time, has_name}
use Rattle.dav_model.specs.Play.{Playing, Stage}
use Rattle.dav_model.specs.Rules.{Knowledge, Rules, SameDots}
use Rattle.dav_model.specs.Trail.{Point, is_writing, target_of}

-- Where names are known of a directory at a time, no link stands on the way to it, and where the world has it at that
-- time it has these names.
pub record Fits (k : Knowledge) (w : World) : Type 0 where
  pub way : (dir : Names) (time : FileTime) (has : Name → Bool) → k.names dir time ≡ Some has
      → is_linked w.tree dir ≡ false
  pub names : (dir : Names) (time : FileTime) (has : Name → Bool) → k.names dir time ≡ Some has
      → dir_time w.tree dir ≡ Some time → SameDots has (has_name w.tree dir)

-- Where both know names of a directory at a time, they are the same.
abbrev pub Agree : Knowledge → Knowledge → Type 0
Agree k l = (dir : Names) (time : FileTime) (had has : Name → Bool) → k.names dir time ≡ Some had
    → l.names dir time ≡ Some has → SameDots has had

-- a step that writes nothing
abbrev pub is_quiet : Rules → Step → Bool
is_quiet rules (Request request now) = not (is_writing (target_of rules request))
is_quiet rules (Poll body) = true
is_quiet rules (Abandon body) = true
is_quiet rules (Purge now) = true
is_quiet rules Turn = true

-- The world that is told has the tree of this one, and nothing is to change it.
pub record StandsAs (w : World) (s : Point) : Type 0 where
  pub now : World
  pub told : s.told ≡ Some now
  pub same : SameBesidesOpens w now
  pub script : w.script ≡ []

-- a player that knows this
abbrev pub knowing : Knowledge → Playing → Playing
knowing k p = record p { knows = k }

abbrev pub knowing_at : Knowledge → Stage → Stage
knowing_at k b = record { at = b.at; playing = knowing k b.playing }
