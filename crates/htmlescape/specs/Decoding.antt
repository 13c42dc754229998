-- What decoding the bytes of a reader answers and writes.
use Rattle.std.specs.Prelude.{◌≡◌, ◌<◌, ◌≤◌, ◌⊎◌, ℕ, true, List, [], ◌∷◌, ◌++◌, length, take, drop, Result, Ok, Err, IfSome, encode_utf8}
use Rattle.std.specs.Str.{encode_utf8_all, all_scalars, StartsWithNoChar}
use Rattle.dav_io.specs.Counts.{Rose}
use Rattle.dav_io.specs.Told.{Both}
use Rattle.dav_io.specs.Outside.{Stream}
use Rattle.htmlescape.specs.Characters.{chunk_len}
use Rattle.htmlescape.specs.Grammar.{IsText, LongestFront, HasFault, fault_at}
use Rattle.htmlescape.specs.Progress.{Completes}
use Rattle.htmlescape.specs.declared.faults.DecodeErr.{DecodeErr}
use Rattle.htmlescape.specs.declared.faults.DecodeErrKind.{DecodeErrKind}
use Rattle.htmlescape.specs.declared.faults.DecodeErrKind.TheVariants.{UnknownEntity, MalformedNumEscape, InvalidCharacter, PrematureEnd, IoError, EncodingError, TooLong, NoMemory}
use Rattle.htmlescape.specs.declared.faults.IoFault.{IoFault}
use Rattle.htmlescape.specs.declared.faults.IoFault.TheVariants.{Read, Write}

-- These characters were read from the bytes, and the rest is left.
pub record ReadSo (bytes text rest : List ℕ) : Type 0 where
  pub spells : bytes ≡ encode_utf8_all text ++ rest
  pub characters : all_scalars text ≡ true

-- No fault is met in the text: an unfinished entity at most is behind its items, which stand for this value.
pub record Unfinished (text value : List ℕ) : Type 0 where
  pub rest : List ℕ
  pub front : LongestFront text value rest
  pub unmet : fault_at rest ≡ PrematureEnd

-- All of the bytes are a text of the grammar, shorter than the limit.
pub record DecodesWhole (limit : ℕ) (bytes value : List ℕ) : Type 0 where
  pub text : List ℕ
  pub read : ReadSo bytes text []
  pub within : length text < limit
  pub whole : IsText text value

-- A fault is met in the characters that were read: it is this one however the text goes on.
pub record MeetsFault (limit : ℕ) (bytes : List ℕ) (fault : DecodeErrKind) (position : ℕ)
    (value : List ℕ) : Type 0 where
  pub text : List ℕ
  pub rest : List ℕ
  pub read : ReadSo bytes text rest
  pub within : length text ≤ limit
  pub met : (more : List ℕ) → HasFault (text ++ more) fault position value

-- The bytes end inside an entity.
pub record EndsEarly (limit : ℕ) (bytes : List ℕ) (position : ℕ) (value : List ℕ) : Type 0 where
  pub text : List ℕ
  pub read : ReadSo bytes text []
  pub within : length text < limit
  pub fault : HasFault text PrematureEnd position value

-- The bytes behind the text are no character in UTF-8.
pub record MeetsBytes (limit : ℕ) (bytes : List ℕ) (position : ℕ) (value : List ℕ) : Type 0 where
  pub text : List ℕ
  pub rest : List ℕ
  pub read : ReadSo bytes text rest
  pub within : length text < limit
  pub some : 0 < length rest
  pub none : StartsWithNoChar rest
  pub place : position ≡ length text
  pub unfinished : Unfinished text value

-- As many characters as the limit were read.
pub record MeetsLimit (limit : ℕ) (bytes : List ℕ) (position : ℕ) (value : List ℕ) : Type 0 where
  pub text : List ℕ
  pub rest : List ℕ
  pub read : ReadSo bytes text rest
  pub full : length text ≡ limit
  pub place : position ≡ length text
  pub unfinished : Unfinished text value

-- The reader failed behind the text.
pub record ReadFault (limit : ℕ) (bytes : List ℕ) (position : ℕ) (value : List ℕ) : Type 0 where
  pub text : List ℕ
  pub rest : List ℕ
  pub read : ReadSo bytes text rest
  pub within : length text < limit
  pub place : position ≡ length text
  pub unfinished : Unfinished text value

-- The writer failed at the character of the text's last item.
pub record WriteFault (limit : ℕ) (bytes : List ℕ) (position : ℕ) (value : List ℕ) : Type 0 where
  pub text : List ℕ
  pub rest : List ℕ
  pub read : ReadSo bytes text rest
  pub within : length text ≤ limit
  pub before : List ℕ
  pub last : ℕ
  pub value_is : value ≡ before ++ last ∷ []
  pub completes : Completes text before last position

-- Where each fault comes. The value is what the items before it stand for, for a write fault with the character at
-- fault.
abbrev pub Stops : ℕ → List ℕ → DecodeErrKind → ℕ → List ℕ → Type 0
Stops limit bytes UnknownEntity position value = MeetsFault limit bytes UnknownEntity position value
Stops limit bytes MalformedNumEscape position value = MeetsFault limit bytes MalformedNumEscape position value
Stops limit bytes InvalidCharacter position value = MeetsFault limit bytes InvalidCharacter position value
Stops limit bytes PrematureEnd position value = EndsEarly limit bytes position value
Stops limit bytes EncodingError position value = MeetsBytes limit bytes position value
Stops limit bytes TooLong position value = MeetsLimit limit bytes position value
Stops limit bytes (IoError Read) position value = ReadFault limit bytes position value
Stops limit bytes (IoError Write) position value = WriteFault limit bytes position value
Stops limit bytes NoMemory position value = ⊥

abbrev pub Decodes : ℕ → List ℕ → Result (Unit {0}) DecodeErr → List ℕ → Type 0
Decodes limit bytes (Ok u) value = DecodesWhole limit bytes value
Decodes limit bytes (Err e) value = Stops limit bytes e.kind e.position value

-- At a write fault a front of the value's bytes was appended, which lacks some of the last character's; else all of
-- them were.
abbrev pub WroteFront : List ℕ → List ℕ → List ℕ → Type 0
WroteFront value old new =
    (before : List ℕ) × (last : ℕ) × (n : ℕ) × (value ≡ before ++ last ∷ []) × (n < length (encode_utf8 last))
    × (new ≡ old ++ (encode_utf8_all before ++ take n (encode_utf8 last)))

abbrev pub WroteAt : DecodeErrKind → List ℕ → List ℕ → List ℕ → Type 0
WroteAt (IoError Write) value old new = WroteFront value old new
WroteAt kind value old new = new ≡ old ++ encode_utf8_all value

abbrev pub Wrote : Result (Unit {0}) DecodeErr → List ℕ → List ℕ → List ℕ → Type 0
Wrote (Ok u) value old new = new ≡ old ++ encode_utf8_all value
Wrote (Err e) value old new = WroteAt e.kind value old new

-- What a reader has left where a fault of the grammar is met: what is behind the character at fault. Before it none was
-- met.
pub record LeavesFault (fault : DecodeErrKind) (position : ℕ) (value old new : List ℕ) : Type 0 where
  pub before : List ℕ
  pub last : ℕ
  pub read : ReadSo old (before ++ last ∷ []) new
  pub unmet : Unfinished before value
  pub met : (more : List ℕ) → HasFault (before ++ last ∷ more) fault position value

-- What it has left at each fault. The bytes that are no character are taken, and a reader that fails has given fewer
-- than four.
abbrev pub LeavesAt : DecodeErrKind → ℕ → List ℕ → List ℕ → List ℕ → Type 0
LeavesAt UnknownEntity position value old new = LeavesFault UnknownEntity position value old new
LeavesAt MalformedNumEscape position value old new = LeavesFault MalformedNumEscape position value old new
LeavesAt InvalidCharacter position value old new = LeavesFault InvalidCharacter position value old new
LeavesAt PrematureEnd position value old new = new ≡ []
LeavesAt EncodingError position value old new =
    (text : List ℕ) × (rest : List ℕ) × ReadSo old text rest × (position ≡ length text)
    × (new ≡ drop (chunk_len rest) rest)
LeavesAt TooLong position value old new = (text : List ℕ) × ReadSo old text new × (position ≡ length text)
LeavesAt (IoError Read) position value old new =
    (text : List ℕ) × (taken : List ℕ) × ReadSo old text (taken ++ new) × (position ≡ length text) × (length taken < 4)
LeavesAt (IoError Write) position value old new =
    (text : List ℕ) × (before : List ℕ) × (last : ℕ) × ReadSo old text new × (value ≡ before ++ last ∷ [])
    × Completes text before last position
LeavesAt NoMemory position value old new = ⊥

abbrev pub Leaves : Result (Unit {0}) DecodeErr → List ℕ → List ℕ → List ℕ → Type 0
Leaves (Ok u) value old new = new ≡ []
Leaves (Err e) value old new = LeavesAt e.kind e.position value old new

abbrev pub IsAt : DecodeErrKind → Result (Unit {0}) DecodeErr → Type 0
IsAt kind (Ok u) = ⊥
IsAt kind (Err e) = e.kind ≡ kind

-- What a decoder does to its reader and its writer.
pub record Decoding (limit : ℕ) (reader writer : Stream) (result : Result (Unit {0}) DecodeErr)
    (reader_after writer_after : Stream) : Type 0 where
  pub reads : reader.faults ≤ reader_after.faults
  pub read_fault : IsAt (IoError Read) result → Rose reader.faults reader_after.faults
  pub writes : writer.faults ≤ writer_after.faults
  pub write_fault : IsAt (IoError Write) result → Rose writer.faults writer_after.faults
  pub no_memory_taken : IsAt NoMemory result → ⊥
  pub value : List ℕ
  pub characters : all_scalars value ≡ true
  pub decodes : IfSome reader.bytes (λ bytes. Decodes limit bytes result value)
  pub left : Both reader.bytes reader_after.bytes (Leaves result value)
  pub written : Both writer.bytes writer_after.bytes (Wrote result value)

-- The reader or the writer failed.
abbrev pub IsIo : Result (Unit {0}) DecodeErr → Type 0
IsIo (Ok u) = ⊥
IsIo (Err e) = (side : IoFault) × (e.kind ≡ IoError side)

-- But for failures of reader and writer no other answer fits the bytes, and no other text is written.
abbrev pub IsOnly : ℕ → Stream → Stream → Result (Unit {0}) DecodeErr → Stream → Type 0
IsOnly limit reader writer result writer_after =
    (other : Result (Unit {0}) DecodeErr) (value : List ℕ)
    → IfSome reader.bytes (λ bytes. Decodes limit bytes other value × ¬ (IsIo other) × ¬ (IsIo result)
    → (other ≡ result) × Both writer.bytes writer_after.bytes (λ old new. new ≡ old ++ encode_utf8_all value))

-- What decoding a text answers.
abbrev pub Answers : List ℕ → Result (Unit {0}) DecodeErr → List ℕ → Type 0
Answers text (Ok u) value = IsText text value
Answers text (Err e) value = HasFault text e.kind e.position value

-- In memory a writer fails for want of memory alone.
abbrev pub in_memory : DecodeErrKind → DecodeErrKind
in_memory (IoError side) = NoMemory
in_memory kind = kind

-- The bytes are those of the characters that a text of the grammar stands for.
abbrev pub IsDecoded : List ℕ → List ℕ → Type 0
IsDecoded text bytes = (value : List ℕ) × IsText text value × (bytes ≡ encode_utf8_all value)

-- Memory was refused, or the text has this fault.
abbrev pub IsFault : List ℕ → DecodeErr → Type 0
IsFault text e = (e.kind ≡ NoMemory) ⊎ ((value : List ℕ) × HasFault text e.kind e.position value)

-- a fault that a text can have, or want of memory
abbrev pub IsOfText : DecodeErrKind → Type 0
IsOfText UnknownEntity = Unit {0}
IsOfText MalformedNumEscape = Unit {0}
IsOfText InvalidCharacter = Unit {0}
IsOfText PrematureEnd = Unit {0}
IsOfText NoMemory = Unit {0}
IsOfText kind = ⊥

-- ---- the kinds of fault by number, for their equality: two faults of reading and writing are equal

abbrev pub number_of : DecodeErrKind → ℕ
number_of UnknownEntity = 0
number_of MalformedNumEscape = 1
number_of InvalidCharacter = 2
number_of PrematureEnd = 3
number_of (IoError side) = 4
number_of EncodingError = 5
number_of TooLong = 6
number_of NoMemory = 7
