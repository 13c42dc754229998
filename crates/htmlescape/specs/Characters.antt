-- Characters read from bytes in UTF-8: the first byte gives the width.
use Rattle.std.specs.Prelude.{◌≡◌, ◌<◌, ℕ, ◌≤◌, if◌then◌else◌, nat_lt, max, List, [], ◌∷◌, ◌++◌, length, drop, Option, Some, None, Result, Ok, Err, IsErr, encode_utf8, codes}
use Rattle.std.specs.Char.{IsScalar}
use Rattle.std.specs.Str.{StartsWithNoChar}
use Rattle.dav_io.specs.declared.failure.Failed.{Failed}
use Rattle.dav_io.specs.Counts.{Rose}
use Rattle.dav_io.specs.Told.{Both}
use Rattle.dav_io.specs.Outside.{Stream}
use Rattle.htmlescape.specs.declared.characters.CharsError.{CharsError}
use Rattle.htmlescape.specs.declared.characters.CharsError.TheVariants.{NotUtf8, Other}

-- how many bytes a character has that begins with this one; 0 where none begins so
abbrev pub width : ℕ → ℕ
width b =
    if nat_lt b 128 then 1 else (if nat_lt b 192 then 0 else (
    if nat_lt b 224 then 2 else (if nat_lt b 240 then 3 else (if nat_lt b 248 then 4 else 0))))

-- how many bytes a reader takes from the front of these
abbrev pub chunk_len : List ℕ → ℕ
chunk_len [] = 0
chunk_len (b ∷ bytes) = max 1 (width b)

-- One byte was read, or the input had ended.
abbrev pub ByteRead : Result (Option ℕ) Failed → List ℕ → List ℕ → Type 0
ByteRead (Ok (Some b)) old new = old ≡ b ∷ new
ByteRead (Ok None) old new = (old ≡ []) × (new ≡ [])
ByteRead (Err e) old new = new ≡ old

-- What a reader of characters finds in the bytes that are left, and what it leaves. At a fault it goes on behind the
-- bytes taken; a source that fails has given fewer than four.
abbrev pub CharRead : Option (Result ℕ CharsError) → List ℕ → List ℕ → Type 0
CharRead None old new = (old ≡ []) × (new ≡ [])
CharRead (Some (Ok c)) old new = old ≡ encode_utf8 c ++ new
CharRead (Some (Err NotUtf8)) old new = (0 < length old) × StartsWithNoChar old × (new ≡ drop (chunk_len old) old)
CharRead (Some (Err (Other e))) old new = (taken : List ℕ) × (old ≡ taken ++ new) × (length taken < 4)

-- the bytes of a character that an item stands for, where one is at its end
abbrev pub bytes_of : Option ℕ → List ℕ
bytes_of None = []
bytes_of (Some c) = encode_utf8 c

abbrev pub IsRefused : Option (Result ℕ CharsError) → Type 0
IsRefused (Some (Err (Other e))) = Unit {0}
IsRefused found = ⊥

abbrev pub IsCharacter : Option (Result ℕ CharsError) → Type 0
IsCharacter (Some (Ok c)) = IsScalar c
IsCharacter found = Unit {0}

pub record ReadsByte (old : Stream) (result : Result (Option ℕ) Failed) (new : Stream) : Type 0 where
  pub counts : old.faults ≤ new.faults
  pub failed : IsErr result → Rose old.faults new.faults
  pub told : Both old.bytes new.bytes (ByteRead result)

pub record ReadsChar (old : Stream) (result : Option (Result ℕ CharsError)) (new : Stream) : Type 0 where
  pub counts : old.faults ≤ new.faults
  pub failed : IsRefused result → Rose old.faults new.faults
  pub scalar : IsCharacter result
  pub told : Both old.bytes new.bytes (CharRead result)

-- the same behind a first byte
pub record ReadsAfter (first : ℕ) (old : Stream) (result : Result ℕ CharsError) (new : Stream) : Type 0 where
  pub counts : old.faults ≤ new.faults
  pub failed : IsRefused (Some result) → Rose old.faults new.faults
  pub scalar : IsCharacter (Some result)
  pub told : Both old.bytes new.bytes (λ a b. CharRead (Some result) (first ∷ a) b)

-- ---- the texts of a fault of reading characters. Of the reader's own none is known

abbrev pub message : CharsError → Option (List ℕ)
message NotUtf8 = Some (codes "byte stream did not contain valid utf8")
message (Other refused) = None
