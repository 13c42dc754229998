-- What a reader of the line with the size of a chunk finds.
use Rattle.std.specs.Prelude.{ℕ, ◌≡◌, ◌≢◌, ◌⊎◌, ◌-◌, ◌<◌, ◌≤◌, List, [], ◌++◌, length, take, drop, slice_index, All}
use Rattle.dav_wire.specs.Bodies.{HasNoSize, MayHaveSize, NeverHasSize, NeverEndsLine}
use Rattle.dav_wire.specs.Chunks.{line_end, HasSize, IsWithinLine}
use Rattle.dav_wire.specs.declared.size_line.EndFound.{EndFound}
use Rattle.dav_wire.specs.declared.size_line.EndFound.TheVariants.{Here, Partly, Nowhere}
use Rattle.dav_wire.specs.declared.size_line.SizeFound.{SizeFound}
use Rattle.dav_wire.specs.declared.size_line.SizeFound.TheVariants.{Line, More, Never}

-- the end of a line stands at the front, or a part of it, or neither
abbrev pub FindsEnd : List ℕ → EndFound → Type 0
FindsEnd text Here = (2 ≤ length text) × (text ≡ line_end ++ drop 2 text)
FindsEnd text Partly = (length text < 2) × (more : List ℕ) × (text ++ more ≡ line_end)
FindsEnd text Nowhere = NeverEndsLine text

-- a line with a size stands at the front, or may still, or never
abbrev pub FindsSize : List ℕ → SizeFound → Type 0
FindsSize text (Line size len) = (0 < len) × (len ≤ length text) × HasSize (take len text) size []
FindsSize text More = (length text ≤ 274) × HasNoSize text × MayHaveSize text
FindsSize text Never = NeverHasSize text

-- a semicolon, and so many bytes with it up to the first CR or LF
pub record IsLongExtension (behind : List ℕ) (len : ℕ) : Type 0 where
  pub some : 0 < len
  pub within : len ≤ length behind
  pub semicolon : slice_index behind 0 ≡ 59
  pub all : All IsWithinLine (take (len - 1) (drop 1 behind))
  pub ends : len < length behind → IsWithinLine (slice_index behind len) → ⊥

-- No extension stands in front of the end of a line, or one of so many bytes with its semicolon, of any length, up to
-- the first CR or LF.
abbrev pub EndsExtension : List ℕ → ℕ → Type 0
EndsExtension behind len = ((len ≡ 0) × (slice_index behind 0 ≢ 59)) ⊎ IsLongExtension behind len
