-- Bodies in chunks (RFC 9112, section 7.1): how they are written, and which bytes are one.
use Rattle.std.specs.Prelude.{◌≡◌, ◌≢◌, ℕ, ◌^◌, ◌<◌, ◌≤◌, false, List, [], ◌∷◌, ◌++◌, length, All, codes}
use Rattle.std.specs.Fmt.{digits}
use Rattle.std.specs.List.{concat}
use Rattle.std.specs.Str.Parse.{AllDigits, digits_value}
use Rattle.dav_wire.specs.declared.chunks.Framing.{Framing}
use Rattle.dav_wire.specs.declared.chunks.Framing.TheVariants.{Raw, Chunked}

abbrev pub line_end : List ℕ
line_end = codes "\r\n"

-- the line before a chunk's bytes: their number in lower-case hexadecimal, without leading zeros
abbrev pub size_line : ℕ → List ℕ
size_line size = digits 16 false size ++ line_end

-- a piece as a chunk
abbrev pub chunk : List ℕ → List ℕ
chunk piece = size_line (length piece) ++ (piece ++ line_end)

-- the last chunk, without a trailer
abbrev pub last_chunk : List ℕ
last_chunk = codes "0\r\n\r\n"

-- a piece of a body as it is written
abbrev pub written : Framing → List ℕ → List ℕ
written Raw piece = piece
written Chunked piece = chunk piece

-- A piece that is one chunk: not empty, since that is the end, and with a size of at most 16 digits.
abbrev pub IsPiece : List ℕ → Type 0
IsPiece piece = (0 < length piece) × (length piece < 16 ^ 16)

-- what is written behind the last piece
abbrev pub ending : Framing → List ℕ
ending Raw = []
ending Chunked = last_chunk

-- The digits are the size of a chunk: 1 to 16 of them, hexadecimal, in any case, with leading zeros or without.
pub record IsSize (text : List ℕ) (size : ℕ) : Type 0 where
  pub some : 0 < length text
  pub few : length text ≤ 16
  pub hexadecimal : AllDigits 16 text
  pub value : digits_value 16 text ≡ size

abbrev pub IsWithinLine : ℕ → Type 0
IsWithinLine byte = (byte ≢ 13) × (byte ≢ 10)

-- What may stand between the size and the end of its line: nothing, or `;` and at most 256 bytes of the line.
abbrev pub IsExtension : List ℕ → Type 0
IsExtension [] = Unit {0}
IsExtension (byte ∷ bytes) = (byte ≡ 59) × (length bytes ≤ 256) × All IsWithinLine bytes

-- A line with the size of a chunk stands at the front. Behind it stands the rest.
pub record HasSize (text : List ℕ) (size : ℕ) (rest : List ℕ) : Type 0 where
  pub number : List ℕ
  pub extension : List ℕ
  pub whole : text ≡ number ++ (extension ++ (line_end ++ rest))
  pub number_is : IsSize number size
  pub extension_is : IsExtension extension

-- Chunks with these pieces stand at the front, none of them empty, and then one of size 0. Behind it stands the rest.
abbrev pub HasChunks : List ℕ → List (List ℕ) → List ℕ → Type 0
HasChunks text [] rest = HasSize text 0 (line_end ++ rest)
HasChunks text (piece ∷ pieces) rest =
    (0 < length piece) × (after : List ℕ) × HasSize text (length piece) (piece ++ (line_end ++ after))
    × HasChunks after pieces rest

-- A body in chunks stands at the front: the bytes of its chunks, joined. Behind it stands the rest.
pub record HasBody (text body rest : List ℕ) : Type 0 where
  pub pieces : List (List ℕ)
  pub chunks : HasChunks text pieces rest
  pub joined : concat pieces ≡ body
