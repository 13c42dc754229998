-- What a body has left, and what a poll of it does.
use Rattle.std.specs.Prelude.{◌≡◌, ◌≤◌, ◌<◌, ◌+◌, ◌-◌, ◌==◌, ◌⊎◌, ◌^◌, ◌&&◌, ℕ, nat_lt, nat_le, List, [], ◌∷◌, length, take, drop, min, max, cond, Bool, true, false, is_some, Option, None, Some, map}
use Rattle.std.specs.List.{list_all, list_any}
use Rattle.dav_io.specs.Counts.{Rose}
use Rattle.dav_core.specs.Disk.{DiskState}
use Rattle.dav_core.specs.Unchanged.{KeepsBut}
use Rattle.dav_core.specs.World.{World, bytes_of}
use Rattle.dav_model.specs.declared.ranges.Slice.{Slice}
use Rattle.dav_model.specs.declared.answer.Answer.{Answer}
use Rattle.dav_model.specs.declared.answer.Answer.TheVariants.{Piece, End, Broken}
use Rattle.dav_model.specs.Bodies.{Part, Polls as PollsParts, text as as_text, slice as as_slice, zeros_size}
use Rattle.dav_model.specs.Calls.{AsksToRead, is_piece}
use Rattle.dav_store.specs.FileView.{FileView}
use Rattle.dav_store.specs.Standing.{Seen}
use Rattle.dav_store.specs.Files.{FileCloses}
use Rattle.dav_get.specs.declared.part.BodyPart.{BodyPart}
use Rattle.dav_get.specs.declared.part.BodyPart.TheVariants.{Text, Slice as SliceOf}
use Rattle.dav_get.specs.declared.open_at.OpenAt.{OpenAt}
use Rattle.dav_get.specs.declared.body.GetBody.{GetBody}
use Rattle.dav_get.specs.declared.body.Given.{Given}
use Rattle.dav_get.specs.declared.body.Given.TheVariants.{Text as GivenText, Read as GivenRead, End as GivenEnd, Broken as GivenBroken}
use Rattle.dav_get.specs.OpenFiles.{IsAt, SameStands, IsPieceOf}

abbrev pub part_of : ℕ → BodyPart → Part
part_of number (Text bytes) = as_text bytes
part_of number (SliceOf part) = as_slice number part.start part.count

abbrev pub parts_of : ℕ → List BodyPart → List Part
parts_of number parts = map (part_of number) parts

-- the parts that are left
abbrev pub left_of : {F : Type 0} → GetBody F → List BodyPart
left_of b = drop b.next b.parts.items

-- A text or a slice that isn't empty; a slice ends below 2^64.
abbrev pub is_part : BodyPart → Bool
is_part (Text bytes) = nat_lt 0 (length bytes)
is_part (SliceOf slice) = nat_lt 0 slice.count && nat_lt (slice.start + slice.count) (2 ^ 64)

abbrev pub is_slice : BodyPart → Bool
is_slice (Text bytes) = false
is_slice (SliceOf slice) = true

-- whether there is room for each piece of a part: for all of a slice, or for the most that a piece has
abbrev pub has_room : ℕ → ℕ → BodyPart → Bool
has_room most room (Text bytes) = true
has_room most room (SliceOf slice) = nat_le (min slice.count (max most zeros_size)) room

-- the most bytes that the next piece may have
abbrev pub next_most_of : List BodyPart → ℕ → ℕ
next_most_of [] room = 0
next_most_of (Text bytes ∷ parts) room = length bytes
next_most_of (SliceOf slice ∷ parts) room = min slice.count room

-- the most bytes of the file that the next piece may have: a text has its own memory
abbrev pub read_most_of : List BodyPart → ℕ → ℕ
read_most_of [] room = 0
read_most_of (Text bytes ∷ parts) room = 0
read_most_of (SliceOf slice ∷ parts) room = min slice.count room

-- memory of this length and capacity that is ready for the next piece, of a body with these parts left and a buffer of
-- this size
pub record IsRoom (left : List BodyPart) (size len capacity : ℕ) : Type 0 where
  pub long : len ≡ size
  pub most : read_most_of left size ≤ capacity

-- What a body keeps: no part that is left is empty; its file is held where a slice is left, with room for its pieces,
-- and only while a part is left; the file is live, regular and opened for reading, at the place that is noted.
pub record IsHeld {F : Type 0} (files : FileView F) (s : DiskState) (b : GetBody F) : Type 0 where
  pub parts : list_all is_part (left_of b) ≡ true
  pub needs : list_any is_slice (left_of b) ≡ true → is_some b.file ≡ true
  pub over : left_of b ≡ [] → is_some b.file ≡ false
  pub some : list_any is_slice (left_of b) ≡ true → 0 < b.most
  pub room : list_all (has_room b.most (length b.buffer.items)) (left_of b) ≡ true
  pub file : (h : OpenAt F) → b.file ≡ Some h → IsAt files s h

-- The file is closed, where there is one.
abbrev pub Closes : {F : Type 0} → (F → ℕ) → DiskState → Option (OpenAt F) → DiskState → Type 0
Closes handle s None t = t ≡ s
Closes handle s (Some h) t = FileCloses s (handle h.file) t

-- The file is closed where nothing is left.
abbrev pub Passes : {F : Type 0} → (F → ℕ) → DiskState → GetBody F → List BodyPart → DiskState → Option (OpenAt F)
    → Type 0
Passes handle s b [] t file = (file ≡ None) × Closes handle s b.file t
Passes handle s b (part ∷ parts) t file = (file ≡ b.file) × (t ≡ s)

-- what of a slice is left after n bytes
abbrev pub passed : Slice → ℕ → List BodyPart → List BodyPart
passed slice n parts = cond (slice.count - n == 0) parts
    (SliceOf (record { start = slice.start + n; count = slice.count - n }) ∷ parts)

-- What a poll of a body gives of the parts that are left, and what it leaves of them.
abbrev pub Takes : {F : Type 0} → (F → DiskState → Option Seen) → DiskState → GetBody F → Type 0 → List BodyPart
    → Answer → List BodyPart → Type 0
Takes seen s b cause [] answer rest = (answer ≡ End) × (rest ≡ [])
Takes seen s b cause (Text bytes ∷ parts) answer rest = (answer ≡ Piece bytes) × (rest ≡ parts)
Takes {F} seen s b cause (SliceOf slice ∷ parts) answer rest =
    ((piece : List ℕ) × (answer ≡ Piece piece)
    × ((h : OpenAt F) → b.file ≡ Some h → IsPieceOf seen s h slice b.most piece)
    × (0 < length piece) × (length piece ≤ slice.count) × (rest ≡ passed slice (length piece) parts))
    ⊎ ((answer ≡ Broken) × (rest ≡ []) × cause)

-- No other file is touched. The body's own is the same, or closed.
abbrev pub TouchesOwn : {F : Type 0} → FileView F → DiskState → Option (OpenAt F) → DiskState → Option (OpenAt F)
    → Type 0
TouchesOwn files s None t None = t ≡ s
TouchesOwn files s None t (Some g) = ⊥
TouchesOwn files s (Some h) t None = KeepsBut (files.handle h.file) s t × (t.live (files.handle h.file) ≡ None)
TouchesOwn files s (Some h) t (Some g) = KeepsBut (files.handle h.file) s t
    × (files.handle g.file ≡ files.handle h.file) × (t.live (files.handle h.file) ≡ s.live (files.handle h.file))
    × SameStands (files.seen h.file s) (files.seen g.file t) × files.becomes h.file g.file

-- P, where a piece is given
abbrev pub IfPiece : Answer → (List ℕ → Type 0) → Type 0
IfPiece (Piece piece) P = P piece
IfPiece answer P = Unit {0}

-- Which calls of the disk a poll asks: none for a text or at the end, and for a slice those by which its next bytes are
-- read, where each move and each read of the file asks one.
abbrev pub Asks : {F : Type 0} → Type 0 → Option (OpenAt F) → List BodyPart → Answer → ℕ → ℕ → Type 0
Asks once file [] answer before after = after ≡ before
Asks once file (Text bytes ∷ parts) answer before after = after ≡ before
Asks once None (SliceOf slice ∷ parts) answer before after = ⊥
Asks once (Some h) (SliceOf slice ∷ parts) answer before after = once
    → AsksToRead h.place slice.start (is_piece answer) before after

-- what a poll does
pub record Polls {F : Type 0} (files : FileView F) (s : DiskState) (b : GetBody F)
    (answer : Answer) (t : DiskState) (c : GetBody F) : Type 0 where
  pub disk : TouchesOwn files s b.file t c.file
  pub takes : Takes files.seen s b (Rose s.faults t.faults) (left_of b) answer (left_of c)
  pub held : IsHeld files t c
  pub asks : Asks files.asks_once b.file (left_of b) answer s.asked t.asked
  pub bound : IfPiece answer (λ piece. length piece ≤ next_most_of (left_of b) (length b.buffer.items))
  pub most : c.most ≡ b.most
  pub room : length c.buffer.items ≡ length b.buffer.items

-- the number of the body's file, where it is told
abbrev pub HasNumber : {F : Type 0} → (F → DiskState → Option Seen) → DiskState → Option (OpenAt F) → ℕ → Type 0
HasNumber {F} seen s file number = (h : OpenAt F) (f : Seen) → file ≡ Some h → seen h.file s ≡ Some f
    → f.stands.number ≡ number

-- The body has these parts left. Where no number is told, any may stand for it.
pub record HasParts {F : Type 0} (seen : F → DiskState → Option Seen) (s : DiskState) (parts : List Part)
    (b : GetBody F) : Type 0 where
  pub number : ℕ
  pub are : parts ≡ parts_of number (left_of b)
  pub file : HasNumber seen s b.file number

-- The body's file is told, with the bytes that a world has under its number.
abbrev pub StandsIn : {F : Type 0} → (F → DiskState → Option Seen) → DiskState → Option World → Option (OpenAt F)
    → Type 0
StandsIn {F} seen s told file = (w : World) (h : OpenAt F) → told ≡ Some w → file ≡ Some h → (f : Seen)
    × (seen h.file s ≡ Some f) × (f.stands.bytes ≡ bytes_of w f.stands.number)

-- What a poll does, and that it is a poll of the parts that are left: in every run for their lengths, and for the bytes
-- of a world in which the file stands.
pub record IsPolled {F : Type 0} (files : FileView F) (s : DiskState) (b : GetBody F)
    (answer : Answer) (t : DiskState) (c : GetBody F) : Type 0 where
  pub does : Polls files s b answer t c
  pub right : (told : Option World) (parts : List Part) → StandsIn files.seen s told b.file
      → HasParts files.seen s parts b → (rest : List Part) × HasParts files.seen t rest c
      × PollsParts told s.whole b.most (Rose s.faults t.faults) parts answer rest

-- the text that stands first
abbrev pub text_of : List BodyPart → List ℕ
text_of [] = []
text_of (Text bytes ∷ parts) = bytes
text_of (SliceOf slice ∷ parts) = []

-- what is given, as an answer
abbrev pub answer_of : {F : Type 0} → Given → GetBody F → Answer
answer_of (GivenText at) c = Piece (text_of (drop at c.parts.items))
answer_of (GivenRead n) c = Piece (take n c.buffer.items)
answer_of GivenEnd c = End
answer_of GivenBroken c = Broken

abbrev pub IsText : List BodyPart → Type 0
IsText [] = ⊥
IsText (Text bytes ∷ parts) = Unit {0}
IsText (SliceOf slice ∷ parts) = ⊥

-- What is given stands in the body, and a text before what is left.
abbrev pub IsInside : {F : Type 0} → Given → GetBody F → Type 0
IsInside (GivenText at) c = IsText (drop at c.parts.items) × (at < c.next)
IsInside (GivenRead n) c = n ≤ length c.buffer.items
IsInside GivenEnd c = Unit {0}
IsInside GivenBroken c = Unit {0}

-- The same is left of the same file.
pub record SameLeft {F : Type 0} (files : FileView F) (s : DiskState) (b : GetBody F)
    (t : DiskState) (c : GetBody F) : Type 0 where
  pub disk : TouchesOwn files s b.file t c.file
  pub left : left_of c ≡ left_of b
  pub held : IsHeld files t c
  pub most : c.most ≡ b.most
  pub room : length c.buffer.items ≡ length b.buffer.items
