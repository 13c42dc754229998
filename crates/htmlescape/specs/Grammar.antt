-- The entity grammar: which texts an HTML decoder takes, what they stand for, and where the others are at fault. A text
-- is a list of characters.
use Rattle.std.specs.Prelude.{◌≡◌, ◌<◌, ◌≤◌, ◌+◌, ℕ, Bool, ◌&&◌, if◌then◌else◌, ◌==◌, nat_lt, List, [], ◌∷◌, ◌++◌, map, length, take, drop, Option, Some, None}
use Rattle.std.specs.List.{flat_map, list_any, list_all, prefix_len}
use Rattle.std.specs.Char.{is_digit}
use Rattle.std.specs.Str.{all_scalars}
use Rattle.std.specs.Str.Parse.{digits_value}
use Rattle.htmlescape.specs.Names.{named}
use Rattle.htmlescape.specs.declared.faults.DecodeErrKind.{DecodeErrKind}
use Rattle.htmlescape.specs.declared.faults.DecodeErrKind.TheVariants.{UnknownEntity, MalformedNumEscape, InvalidCharacter, PrematureEnd}

-- A character that stands for itself; `&`, a name and `;`; `&#`, decimal digits and `;`; `&#x`, hexadecimal digits and
-- `;`.
pub data Item : Type 0 where
  Plain : ℕ → Item
  Name : List ℕ → Item
  Decimal : List ℕ → Item
  Hexadecimal : List ℕ → Item

abbrev pub spelled : Item → List ℕ
spelled (Plain c) = c ∷ []
spelled (Name name) = 38 ∷ (name ++ 59 ∷ [])
spelled (Decimal digits) = 38 ∷ 35 ∷ (digits ++ 59 ∷ [])
spelled (Hexadecimal digits) = 38 ∷ 35 ∷ 120 ∷ (digits ++ 59 ∷ [])

-- one digit or more of this base, and nothing else
abbrev pub are_digits : ℕ → List ℕ → Bool
are_digits base digits = nat_lt 0 (length digits) && list_all (λ c. is_digit c base) digits

-- the character whose number the digits write
abbrev pub numbered : ℕ → List ℕ → Option ℕ
numbered base digits =
    if are_digits base digits && all_scalars (digits_value base digits ∷ [])
    then Some (digits_value base digits) else None

-- the character that an item stands for; none where it is no item of the grammar
abbrev pub meaning : Item → Option ℕ
meaning (Plain c) = if c == 38 then None else Some c
meaning (Name name) = named name
meaning (Decimal digits) = numbered 10 digits
meaning (Hexadecimal digits) = numbered 16 digits

-- The text is a list of items, which stand for these characters.
pub record IsText (text value : List ℕ) : Type 0 where
  pub items : List Item
  pub spells : text ≡ flat_map spelled items
  pub means : map meaning items ≡ map Some value

-- A list of items stands at the front of the text.
pub record Begins (text value rest : List ℕ) : Type 0 where
  pub items : List Item
  pub spells : text ≡ flat_map spelled items ++ rest
  pub means : map meaning items ≡ map Some value

-- It is the longest.
pub record LongestFront (text value rest : List ℕ) : Type 0 where
  pub front : Begins text value rest
  pub longest : (other more : List ℕ) → Begins text other more → length rest ≤ length more

-- What follows the longest front decides the fault. Digits run to the first other character.
abbrev pub number_end : ℕ → List ℕ → List ℕ → DecodeErrKind
number_end base digits [] = PrematureEnd
number_end base digits (c ∷ more) =
    if (c == 59 && nat_lt 0 (length digits)) && nat_lt (digits_value base digits) 4294967296
    then InvalidCharacter else MalformedNumEscape

abbrev pub digits_fault : ℕ → List ℕ → DecodeErrKind
digits_fault base text = let n = prefix_len (λ c. is_digit c base) text in number_end base (take n text) (drop n text)

abbrev pub number_fault : List ℕ → DecodeErrKind
number_fault [] = PrematureEnd
number_fault (c ∷ more) = if c == 120 then digits_fault 16 more else digits_fault 10 (c ∷ more)

-- a name runs to the next `;`
abbrev pub name_fault : List ℕ → DecodeErrKind
name_fault text = if list_any (λ c. c == 59) text then UnknownEntity else PrematureEnd

abbrev pub entity_fault : List ℕ → DecodeErrKind
entity_fault [] = PrematureEnd
entity_fault (c ∷ more) =
    if c == 59 then UnknownEntity else (if c == 35 then number_fault more else name_fault (c ∷ more))

-- the fault of what no item begins: an ampersand, and what is behind it
unfoldable pub fault_at : List ℕ → DecodeErrKind
fault_at [] = PrematureEnd
fault_at (ampersand ∷ more) = entity_fault more

-- The text is no list of items. Its longest front stands for `value`, and the fault is this one, behind so many
-- characters.
pub record HasFault (text : List ℕ) (fault : DecodeErrKind) (position : ℕ) (value : List ℕ) : Type 0 where
  pub rest : List ℕ
  pub front : LongestFront text value rest
  pub some : 0 < length rest
  pub kind : fault ≡ fault_at rest
  pub place : position + length rest ≡ length text
