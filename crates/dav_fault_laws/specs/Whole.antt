-- Answers that no fault has spoiled so that the client sees it.
use Rattle.std.specs.Prelude.{◌≡◌, List, [], ◌∷◌}
use Rattle.dav_io.specs.Counts.{Rose}
use Rattle.dav_model.specs.declared.answer.Answer.{Answer}
use Rattle.dav_model.specs.declared.answer.Answer.TheVariants.{Reply, Piece, End, Broken, Done}
use Rattle.dav_model.specs.Trail.{Move, Point}

-- a reply of another status than 500, or any answer but that a body broke
abbrev pub IsWhole : Answer → Type 0
IsWhole (Reply status fields body) = status ≡ 500 → ⊥
IsWhole (Piece bytes) = Unit {0}
IsWhole End = Unit {0}
IsWhole Broken = ⊥
IsWhole Done = Unit {0}

-- Along a trail each answer is whole, or a fault was met in its step.
abbrev pub FailByFaults : Point → List Move → Type 0
FailByFaults s [] = Unit {0}
FailByFaults s (move ∷ moves) = ((Rose s.faults move.to.faults → ⊥) → IsWhole move.answer) × FailByFaults move.to moves
