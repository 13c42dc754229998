-- What the large input asks for, and the rules by which it is answered.
use Rattle.std.specs.Prelude.{◌≡◌, ℕ, List, [], ◌∷◌, codes, true, false, Some, None}
use Rattle.http.specs.Request.{head_of, body_of}
use Rattle.http_uri.specs.Uri.{uri_path}
use Rattle.dav_io.specs.declared.clock.Moment.{Moment}
use Rattle.dav_core.specs.World.{World}
use Rattle.dav_disk.specs.Memory.{HasRoom}
use Rattle.dav_model.specs.declared.step.Step.{Step}
use Rattle.dav_model.specs.declared.step.Step.TheVariants.{Request, Poll}
use Rattle.dav_model.specs.Play.{Stage}
use Rattle.dav_model.specs.Conditions.{Asked, fields_of}
use Rattle.dav_model.specs.Rules.{Rules}
use Rattle.dav_model.specs.Unset.{nothing_set}
use Rattle.dav_bench.specs.Names.{target}
use Rattle.dav_bench.specs.Tree.{IsBench}

-- a GET of file j of directory i, without fields and body
pub record IsAsking (i j : ℕ) (request : Asked) : Type 0 where
  pub method : (head_of request).method ≡ codes "GET"
  pub path : uri_path (head_of request).uri ≡ target i j
  pub fields : fields_of request ≡ []
  pub body : body_of request ≡ []

-- the request, and two polls of its body
abbrev pub steps_for : Asked → Moment → ℕ → List Step
steps_for request now body = Request request now ∷ Poll body ∷ Poll body ∷ []

-- nothing is set, and names fold
abbrev pub bench_rules : Rules
bench_rules = record { settings = nothing_set; folds = true; macos = false; alone = None }

-- A player over the large input. Its reads are whole.
pub record IsReady (m : ℕ) (s : Stage) : Type 0 where
  pub world : World
  pub told : s.at.told ≡ Some world
  pub bench : IsBench m world
  pub whole : s.at.whole ≡ true
  pub rules : s.playing.rules ≡ bench_rules

-- the steps for file j of directory i, at a moment, where the next reply has this number
pub record AreStepsFor (i j body : ℕ) (steps : List Step) : Type 0 where
  pub request : Asked
  pub now : Moment
  pub asking : IsAsking i j request
  pub are : steps ≡ steps_for request now body

-- no fault was met, where the disk tells a world in which numbers and times are left
abbrev pub IsSpared : Stage → Type 0
IsSpared s = (w : World) → s.at.told ≡ Some w → HasRoom w → s.at.faults ≡ 0
