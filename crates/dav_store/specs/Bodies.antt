-- What a call of a reader of a request's body does, as a relation between the reader before and after it.
use Rattle.std.specs.Prelude.{◌≡◌, ◌<◌, ◌≤◌, ◌||◌, ℕ, List, [], ◌++◌, length, Bool, true, false, Option, None, Some, Result, Ok, Err, IsErr}
use Rattle.dav_io.specs.declared.failure.Failed.{Failed}
use Rattle.dav_io.specs.Counts.{Rose}
use Rattle.dav_io.specs.Told.{Both}

-- A reader as contracts see it: the bytes that are left, where they are told, whether it gave None, and the count of
-- faults.
pub record BodyState : Type 0 where
  pub left : Option (List ℕ)
  pub ended : Bool
  pub faults : ℕ

-- A piece is a front of the bytes that are left, and isn't empty. None comes exactly where none is left.
abbrev pub PieceIn : Result (Option (List ℕ)) Failed → List ℕ → List ℕ → Type 0
PieceIn (Ok (Some piece)) old new = old ≡ piece ++ new
PieceIn (Ok None) old new = (old ≡ []) × (new ≡ [])
PieceIn (Err e) old new = new ≡ old

abbrev pub IsPiece : Result (Option (List ℕ)) Failed → Type 0
IsPiece (Ok (Some piece)) = 0 < length piece
IsPiece (Ok None) = Unit {0}
IsPiece (Err e) = Unit {0}

-- whether an answer is None
abbrev pub is_end : Result (Option (List ℕ)) Failed → Bool
is_end (Ok (Some piece)) = false
is_end (Ok None) = true
is_end (Err e) = false

pub record GivesPiece (old : BodyState) (result : Result (Option (List ℕ)) Failed) (new : BodyState) : Type 0 where
  pub counts : old.faults ≤ new.faults
  pub failed : IsErr result → Rose old.faults new.faults
  pub some : IsPiece result
  pub ended : new.ended ≡ (old.ended || is_end result)
  pub told : Both old.left new.left (PieceIn result)

-- ---- a reader of bytes that are in memory

-- what is left of a body in memory
abbrev pub bytes_or_none : Option (List ℕ) → List ℕ
bytes_or_none None = []
bytes_or_none (Some bytes) = bytes

-- It gives all that is left in one piece, or None where nothing is left; and it doesn't fail.
abbrev pub IsAll : Result (Option (List ℕ)) Failed → List ℕ → Type 0
IsAll (Ok (Some piece)) left = piece ≡ left
IsAll (Ok None) left = left ≡ []
IsAll (Err e) left = ⊥

-- A reader of bytes that are in memory tells them, and meets no fault.
abbrev pub one_state : Option (List ℕ) → Bool → BodyState
one_state bytes ended = record { left = Some (bytes_or_none bytes); ended = ended; faults = 0 }
