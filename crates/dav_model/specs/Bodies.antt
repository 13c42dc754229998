-- What a body has left, and what a poll of it gives (the remaining body).
use Rattle.std.proofs.Common.{Bool}
use Rattle.std.specs.Prelude.{Option, Some, ◌⊎◌, ◌≡◌, ◌≤◌, ◌<◌, ◌+◌, ◌-◌, ◌==◌, ℕ, List, [], ◌∷◌, length, take, drop, min, replicate, cond, IsTrue, None}
use Rattle.std.specs.List.{AllByRecursion}
use Rattle.dav_core.specs.World.{World, bytes_of}
use Rattle.dav_model.specs.declared.answer.Answer.{Answer}
use Rattle.dav_model.specs.declared.answer.Answer.TheVariants.{Piece, End, Broken}

-- the most bytes of a file in a piece; 0 is the default
abbrev pub read_size_of : Option ℕ → ℕ
read_size_of None = 16384
read_size_of (Some n) = cond (n == 0) 16384 n

-- the most zeros in a piece
abbrev pub zeros_size : ℕ
zeros_size = 4096

-- A part of a body. In no list of parts that is answered is a text or a slice of length 0.
pub data Part : Type 0 where
  text : List ℕ → Part
  -- bytes of a file number, from a place on
  slice : (number start count : ℕ) → Part

-- a part that isn't empty
abbrev pub HasBytes : Part → Type 0
HasBytes (text bytes) = 0 < length bytes
HasBytes (slice number start count) = 0 < count

-- no part is empty
abbrev pub NoneEmpty : List Part → Type 0
NoneEmpty parts = AllByRecursion HasBytes parts

-- a slice moved on by n bytes; it goes when nothing of it is left
abbrev pub moved : ℕ → ℕ → ℕ → ℕ → List Part → List Part
moved number start count n parts = cond (count - n == 0) parts (slice number (start + n) (count - n) ∷ parts)

-- the bytes that stand in a file from a place on
abbrev pub standing_from : World → ℕ → ℕ → List ℕ
standing_from w number start = drop start (bytes_of w number)

-- A piece of a slice: a nonempty front of the bytes that stand there now, as long as the bounds allow where reads are
-- whole; or zeros where no byte stands. `most` is the size of the read buffer.
abbrev pub PieceOf : Bool → ℕ → List ℕ → ℕ → List ℕ → Type 0
PieceOf whole most [] count piece = piece ≡ replicate (min count zeros_size) 0
PieceOf whole most (b ∷ bytes) count piece = (0 < length piece) × (length piece ≤ min count most)
    × (piece ≡ take (length piece) (b ∷ bytes))
    × (IsTrue whole → length piece ≡ min (min count most) (length (b ∷ bytes)))

-- The first part gives this piece, and leaves those parts. The piece's bytes are those of the world, where it is told.
abbrev pub Gives : Option World → Bool → ℕ → Part → List Part → List ℕ → List Part → Type 0
Gives told whole most (text bytes) parts piece rest = (piece ≡ bytes) × (rest ≡ parts)
Gives told whole most (slice number start count) parts piece rest = (0 < length piece) × (length piece ≤ count)
    × (rest ≡ moved number start count (length piece) parts)
    × ((w : World) → told ≡ Some w → PieceOf whole most (standing_from w number start) count piece)

-- A text doesn't break. A slice breaks only where there is a cause.
abbrev pub Breaks : Part → Type 0 → Type 0
Breaks (text bytes) cause = ⊥
Breaks (slice number start count) cause = cause

-- A poll of a body with these parts left gives this answer, and leaves those. Where it breaks, nothing is left. The
-- cause of a break is that the count of faults rose.
abbrev pub Polls : Option World → Bool → ℕ → Type 0 → List Part → Answer → List Part → Type 0
Polls told whole most cause [] answer rest = (answer ≡ End) × (rest ≡ [])
Polls told whole most cause (part ∷ parts) answer rest = ((piece : List ℕ) × (answer ≡ Piece piece)
    × Gives told whole most part parts piece rest)
    ⊎ ((answer ≡ Broken) × (rest ≡ []) × Breaks part cause)

-- how many bytes a body has left
abbrev pub bytes_left : List Part → ℕ
bytes_left [] = 0
bytes_left (text bytes ∷ parts) = length bytes + bytes_left parts
bytes_left (slice number start count ∷ parts) = count + bytes_left parts

-- the same, and one for each part
abbrev pub size : List Part → ℕ
size parts = bytes_left parts + length parts
