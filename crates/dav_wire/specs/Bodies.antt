-- The bodies of requests (RFC 9112, sections 6 and 7.1): what stands behind a head, by what the head announces.
--
-- At each text one of three holds: a body stands at its front, none can ever stand there (a refusal is owed), or it is
-- unfinished (more bytes are wanted).
use Rattle.std.specs.Prelude.{◌≡◌, ℕ, ◌+◌, ◌-◌, ◌<◌, ◌≤◌, List, [], ◌∷◌, ◌++◌, length}
use Rattle.std.specs.List.{concat}
use Rattle.dav_wire.specs.Chunks.{line_end, HasSize, HasBody}
use Rattle.dav_wire.specs.declared.announcing.Announced.{Announced}
use Rattle.dav_wire.specs.declared.announcing.Announced.TheVariants.{Nothing, Sized, InChunks, Unclear}
use Rattle.dav_wire.specs.declared.next.Flaw.{Flaw}
use Rattle.dav_wire.specs.declared.next.Flaw.TheVariants.{Malformed, TooLarge}

-- the most bytes of a body
abbrev pub most_body : ℕ
most_body = 1073741824

-- A body stands at the front. Behind it stands the rest.
abbrev pub IsBody : Announced → List ℕ → List ℕ → List ℕ → Type 0
IsBody Nothing text body rest = (body ≡ []) × (rest ≡ text)
IsBody (Sized size) text body rest = (size ≤ most_body) × (length body ≡ size) × (text ≡ body ++ rest)
IsBody InChunks text body rest = (length body ≤ most_body) × HasBody text body rest
IsBody Unclear text body rest = ⊥

-- no body stands at the front
abbrev pub HasNoBody : Announced → List ℕ → Type 0
HasNoBody announced text = (body rest : List ℕ) → IsBody announced text body rest → ⊥

-- Whole chunks with these pieces stand at the front, none of them empty. Behind them stands the rest.
abbrev pub HasFront : List ℕ → List (List ℕ) → List ℕ → Type 0
HasFront text [] rest = rest ≡ text
HasFront text (piece ∷ pieces) rest =
    (0 < length piece) × (after : List ℕ) × HasSize text (length piece) (piece ++ (line_end ++ after))
    × HasFront after pieces rest

-- The whole chunks at the front have these bytes, no more than a body may have. Behind them stands the rest.
pub record BeginsBody (text begun rest : List ℕ) : Type 0 where
  pub pieces : List (List ℕ)
  pub front : HasFront text pieces rest
  pub joined : concat pieces ≡ begun
  pub few : length begun ≤ most_body

-- no line with a size stands at the front
abbrev pub HasNoSize : List ℕ → Type 0
HasNoSize text = (size : ℕ) (rest : List ℕ) → HasSize text size rest → ⊥

-- more bytes can make a line with a size of the text
abbrev pub MayHaveSize : List ℕ → Type 0
MayHaveSize text = (more : List ℕ) × (size : ℕ) × (rest : List ℕ) × HasSize (text ++ more) size rest

-- no line with a size can stand at the front, whatever follows
abbrev pub NeverHasSize : List ℕ → Type 0
NeverHasSize text = (more : List ℕ) (size : ℕ) (rest : List ℕ) → HasSize (text ++ more) size rest → ⊥

-- the end of a line can't stand at the front, whatever follows
abbrev pub NeverEndsLine : List ℕ → Type 0
NeverEndsLine text = (more rest : List ℕ) → text ++ more ≡ line_end ++ rest → ⊥

-- So many bytes and the end of a line stand at the front. Behind them stands the rest.
abbrev pub HasPiece : ℕ → List ℕ → List ℕ → List ℕ → Type 0
HasPiece size text piece rest = (length piece ≡ size) × (text ≡ piece ++ (line_end ++ rest))

-- the text has fewer bytes than that
abbrev pub IsShort : ℕ → List ℕ → Type 0
IsShort size text = length text < size + 2

-- more bytes can make so many bytes and the end of a line of the text
abbrev pub MayHavePiece : ℕ → List ℕ → Type 0
MayHavePiece size text = (more piece rest : List ℕ) × HasPiece size (text ++ more) piece rest

-- so many bytes and the end of a line can't stand at the front, whatever follows
abbrev pub NeverHasPiece : ℕ → List ℕ → Type 0
NeverHasPiece size text = (more piece rest : List ℕ) → HasPiece size (text ++ more) piece rest → ⊥

-- Why no chunk of at most so many bytes can stand at the front, nor the last one, whatever follows.
pub data BreaksChunk (room : ℕ) (text : List ℕ) : Type 0 where
  -- no line with a size can stand there
  bad_line : NeverHasSize text → BreaksChunk room text
  -- behind the line with its size its bytes and the end of a line can't stand; behind that of size 0 the end of a line
  bad_piece : (size : ℕ) (behind : List ℕ) → size ≤ room → HasSize text size behind → NeverHasPiece size behind
      → BreaksChunk room text

-- A chunk of at most so many bytes is unfinished, or the last one: nothing stands there that more could not complete.
pub data IsChunkUnfinished (room : ℕ) (text : List ℕ) : Type 0 where
  -- the bytes are over inside the line with its size, which may still be any
  open_line : HasNoSize text → MayHaveSize text → IsChunkUnfinished room text
  -- they are over behind that line
  open_piece : (size : ℕ) (behind : List ℕ) → size ≤ room → HasSize text size behind → IsShort size behind
      → MayHavePiece size behind → IsChunkUnfinished room text

-- Why no body in chunks can stand at the front, whatever follows.
pub data ChunksRefusal (text : List ℕ) (flaw : Flaw) : Type 0 where
  -- behind whole chunks stands what no chunk can be
  broken : (begun rest : List ℕ) → flaw ≡ Malformed → BeginsBody text begun rest
      → BreaksChunk (most_body - length begun) rest → ChunksRefusal text flaw
  -- behind whole chunks stands the line of a size that makes the body too long
  large : (begun rest behind : List ℕ) (size : ℕ) → flaw ≡ TooLarge → BeginsBody text begun rest
      → HasSize rest size behind → most_body < length begun + size → ChunksRefusal text flaw

-- Why no body can stand at the front, whatever follows: 400 is owed where it is malformed, 413 where it is too large.
abbrev pub BodyRefusal : Announced → List ℕ → Flaw → Type 0
BodyRefusal Nothing text flaw = ⊥
BodyRefusal (Sized size) text flaw = (flaw ≡ TooLarge) × (most_body < size)
BodyRefusal InChunks text flaw = ChunksRefusal text flaw
BodyRefusal Unclear text flaw = flaw ≡ Malformed

-- The bytes are over inside a body in chunks.
pub record IsUnfinishedInChunks (text : List ℕ) : Type 0 where
  pub begun : List ℕ
  pub rest : List ℕ
  pub begins : BeginsBody text begun rest
  pub unfinished : IsChunkUnfinished (most_body - length begun) rest

-- The bytes are over inside a body: no body stands there, and no refusal is owed yet.
abbrev pub IsBodyUnfinished : Announced → List ℕ → Type 0
IsBodyUnfinished Nothing text = ⊥
IsBodyUnfinished (Sized size) text = (size ≤ most_body) × (length text < size)
IsBodyUnfinished InChunks text = IsUnfinishedInChunks text
IsBodyUnfinished Unclear text = ⊥
