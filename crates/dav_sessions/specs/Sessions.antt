-- What sessions are answered that share caches.
use Rattle.std.specs.Prelude.{◌≡◌, ◌⊎◌, Bool, true, List, [], None, Result}
use Rattle.std.specs.List.{AllByRecursion}
use Rattle.dav_io.specs.declared.failure.NoMemory.{NoMemory}
use Rattle.dav_core.specs.declared.time.FileTime.{FileTime}
use Rattle.dav_core.specs.Disk.{DiskState}
use Rattle.dav_core.specs.Path.{Names}
use Rattle.dav_core.specs.World.{World}
use Rattle.dav_local.specs.Shown.{knowledge_of}
use Rattle.dav_model.specs.declared.answer.Answer.{Answer}
use Rattle.dav_model.specs.declared.settings.Settings.{Settings}
use Rattle.dav_model.specs.declared.step.Step.{Step}
use Rattle.dav_model.specs.Play.{PlayedOn, Stage}
use Rattle.dav_model.specs.Rules.{Knowledge, Rules}
use Rattle.dav_model.specs.Still.{Fits, StandsAs, is_quiet}
use Rattle.dav_model.specs.Trail.{Point}
use Rattle.dav_shared.specs.Books.{Page, kept_by}
use Rattle.dav_sessions.specs.declared.session.Session.{Session}

-- the rules of a session's store: a disk from its root on
abbrev pub rules_of : Settings → Bool → Bool → Rules
rules_of settings folds macos = record { settings = settings; folds = folds; macos = macos; alone = None }

-- what is known by what a page tells
abbrev pub known_by_page : Page → Knowledge
known_by_page page = knowledge_of (kept_by page None)

-- A new player over a disk in this state: it gave no reply, and its memory knows what the page tells.
abbrev pub ready : Page → Rules → Point → Stage
ready page rules s = record {
  at = s;
  playing = record {
    rules = rules;
    replies = 0;
    left = λ _. [];
    held = λ _. None;
    knows = known_by_page page;
  };
}

-- ---- the condition

-- Its disk tells a world of which no change is to come, none of its steps writes, and where the page tells a directory
-- and a time, the world has these names there. The page tells no directory behind a link, of which a world says nothing.
pub record IsStill (page : Page) (rules : Rules) (s : Point) (steps : List Step) : Type 0 where
  pub world : World
  pub stands : StandsAs world s
  pub quiet : AllByRecursion (λ step. is_quiet rules step ≡ true) steps
  pub fits : Fits (known_by_page page) world

-- What a session must meet to share caches: the page tells nothing, or the session is still.
abbrev pub MayShare : Page → Rules → Point → List Step → Type 0
MayShare page rules s steps = ((dir : Names) (time : FileTime) → page dir time ≡ None) ⊎ IsStill page rules s steps

-- ---- the answers

-- A session by itself: no other and no cache is named.
pub record Own : Type 0 where
  pub at : Point
  pub steps : List Step
  pub answers : List Answer

abbrev pub own_of : {D : Type 0} → (D → DiskState) → Session D → Own
own_of disk session = record { at = disk session.disk; steps = session.steps; answers = session.answers }

-- Answers were added by a new player over a disk in this state, and left it so.
abbrev pub PlaysFrom : Page → Rules → Point → List Step → List Answer → Result Unit NoMemory → List Answer → Point → Type 0
PlaysFrom page rules s steps old outcome new t =
    (b : Stage) × PlayedOn (ready page rules s) steps old new outcome b × (t ≡ b.at)

-- The answers that were added are those to its own steps over its own disk. Where it ended with want of memory they are
-- those to its first steps.
pub record Plays (page : Page) (rules : Rules) (old : Own) (outcome : Result Unit NoMemory) (new : Own) : Type 0 where
  pub steps : new.steps ≡ old.steps
  pub played : PlaysFrom page rules old.at old.steps old.answers outcome new.answers new.at
