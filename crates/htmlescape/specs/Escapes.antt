-- What the encoders write, character by character.
use Rattle.std.specs.Prelude.{ℕ, ◌/◌, ◌%◌, Bool, true, not, ◌&&◌, if◌then◌else◌, ◌==◌, nat_lt, List, [], ◌∷◌, Option, Some, None, codes, ◌||◌, nat_le}
use Rattle.std.specs.List.{flat_map}
use Rattle.std.specs.Char.{is_ascii_alphanumeric}
use Rattle.std.specs.Fmt.{digit_glyph}
use Rattle.htmlescape.specs.declared.alphabet.Alphabet.{Alphabet}
use Rattle.htmlescape.specs.declared.alphabet.Alphabet.TheVariants.{Minimal, Attribute}
use Rattle.htmlescape.specs.declared.alphabet.Escape.{Escape}
use Rattle.htmlescape.specs.declared.alphabet.Escape.TheVariants.{Entity, Number}

-- the entity of one of the five characters `"`, `&`, `'`, `<`, `>`
unfoldable pub minimal_entity : ℕ → Option (List ℕ)
minimal_entity c =
    if c == 34 then Some (codes "&quot;") else (
    if c == 38 then Some (codes "&amp;") else (
    if c == 39 then Some (codes "&#x27;") else (
    if c == 60 then Some (codes "&lt;") else (
    if c == 62 then Some (codes "&gt;") else None))))

-- a number below 256 by two upper-case hexadecimal digits
abbrev pub hex_escape : ℕ → List ℕ
hex_escape c = 38 ∷ 35 ∷ 120 ∷ digit_glyph true (c / 16) ∷ digit_glyph true (c % 16) ∷ 59 ∷ []

-- whether an attribute's encoding writes the character by its number
abbrev pub is_numbered : ℕ → Bool
is_numbered c = nat_lt c 256 && not (is_ascii_alphanumeric c)

-- what stands for a character without a minimal entity
abbrev pub other : Alphabet → ℕ → List ℕ
other Minimal c = c ∷ []
other Attribute c = if is_numbered c then hex_escape c else (c ∷ [])

abbrev pub or_else : Option (List ℕ) → List ℕ → List ℕ
or_else None other_text = other_text
or_else (Some entity) other_text = entity

-- what stands for a character
unfoldable pub escaped : Alphabet → ℕ → List ℕ
escaped alphabet c = or_else (minimal_entity c) (other alphabet c)

-- a text's encoding
abbrev pub encoded : Alphabet → List ℕ → List ℕ
encoded alphabet text = flat_map (escaped alphabet) text

-- ---- the text of what stands for a character

abbrev pub escape_text : Escape → List ℕ
escape_text (Entity text) = text.now
escape_text (Number code) = hex_escape code

-- ---- what the encodings leave out

-- one of `"`, `'`, `<`, `>`
abbrev pub is_markup : ℕ → Bool
is_markup c = (c == 34 || c == 39) || (c == 60 || c == 62)

-- no ASCII character, or a letter, a digit, or one of `&`, `#`, `;`
abbrev pub is_harmless : ℕ → Bool
is_harmless c = nat_le 128 c || (is_ascii_alphanumeric c || (c == 38 || (c == 35 || c == 59)))
