-- What a session keeps while it is played.
use Rattle.std.specs.Prelude.{◌≡◌, ◌⊎◌, None, true, List}
use Rattle.std.specs.List.{AllByRecursion}
use Rattle.dav_core.specs.declared.time.FileTime.{FileTime}
use Rattle.dav_core.specs.Path.{Names}
use Rattle.dav_core.specs.World.{World}
use Rattle.dav_model.specs.declared.step.Step.{Step}
use Rattle.dav_model.specs.Rules.{Rules}
use Rattle.dav_model.specs.Trail.{Point}
use Rattle.dav_shared.specs.Books.{Page}
use Rattle.dav_model.specs.Still.{Fits, StandsAs, is_quiet}
use Rattle.dav_sessions.specs.Sessions.{known_by_page}

-- The page tells nothing; or the world stands still, no step of the session writes, and the page fits the world.
abbrev pub GoesOn : Page → Rules → Point → List Step → Type 0
GoesOn page rules s steps = ((dir : Names) (time : FileTime) → page dir time ≡ None)
    ⊎ ((w : World) × StandsAs w s × AllByRecursion (λ step. is_quiet rules step ≡ true) steps × Fits (known_by_page page) w)
