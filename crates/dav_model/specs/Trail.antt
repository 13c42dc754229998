-- The trail: the steps of a run that were answered, each with its answer and the point to which it led.
use Rattle.std.specs.Prelude.{◌≡◌, ◌≤◌, List, [], ◌∷◌, map, Bool, true, false, IsTrue, not}
use Rattle.http.specs.Request.{head_of, body_of}
use Rattle.dav_io.specs.Told.{Both}
use Rattle.dav_core.specs.Disk.{DiskState}
use Rattle.dav_core.specs.Unchanged.{SameBesidesOpens}
use Rattle.dav_model.specs.declared.step.Step.{Step}
use Rattle.dav_model.specs.declared.step.Step.TheVariants.{Request, Poll, Abandon, Purge, Turn}
use Rattle.dav_model.specs.declared.answer.Answer.{Answer}
use Rattle.dav_model.specs.declared.target.Target.{Target}
use Rattle.dav_model.specs.declared.target.Target.TheVariants.{At, Methods, Refused, Writes}
use Rattle.dav_model.specs.Conditions.{Asked}
use Rattle.dav_model.specs.Gates.{gates, bulk_of}
use Rattle.dav_model.specs.Rules.{Rules}

-- A point is the state of the disk between two steps: its world where it is told, its counts, and what is live.
abbrev pub Point : Type 0
Point = DiskState

-- a step, its answer, and the point to which it led
pub record Move : Type 0 where
  pub step : Step
  pub answer : Answer
  pub to : Point

abbrev pub steps_of : List Move → List Step
steps_of moves = map (λ move. move.step) moves

abbrev pub answers_of : List Move → List Answer
answers_of moves = map (λ move. move.answer) moves

abbrev pub points_of : List Move → List Point
points_of moves = map (λ move. move.to) moves

-- the last point
abbrev pub last_of : Point → List Move → Point
last_of s [] = s
last_of s (move ∷ moves) = last_of move.to moves

-- what a request asks for
abbrev pub target_of : Rules → Asked → Target
target_of rules request = gates rules.settings true (head_of request) (bulk_of (body_of request))

-- What no step changes but a turn, and a request that writes: the tree, the bytes, the script.
abbrev pub Leaves : Point → Point → Type 0
Leaves s t = Both s.told t.told SameBesidesOpens

-- What holds of every step: counts don't fall, whole reads stay whole, no listing is left open.
pub record Goes (s t : Point) : Type 0 where
  pub faults : s.faults ≤ t.faults
  pub asked : s.asked ≤ t.asked
  pub whole : IsTrue s.whole → IsTrue t.whole
  pub listers : t.listers ≡ s.listers

-- whether what is asked for writes
abbrev pub is_writing : Target → Bool
is_writing (Writes method path) = true
is_writing (At method path) = false
is_writing Methods = false
is_writing (Refused status close) = false

-- Whether a step changes neither the tree nor the bytes: all but a turn of the outside and a request that writes.
abbrev pub step_leaves : Rules → Step → Bool
step_leaves rules (Request request now) = not (is_writing (target_of rules request))
step_leaves rules (Poll body) = true
step_leaves rules (Abandon body) = true
step_leaves rules (Purge now) = true
step_leaves rules Turn = false
