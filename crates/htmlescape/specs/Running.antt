-- What a decoder keeps of an unfinished entity, and what it stands for.
use Rattle.std.specs.Prelude.{◌≡◌, ◌<◌, ◌≤◌, ◌≢◌, ◌⊎◌, ℕ, min, Bool, true, false, not, ◌&&◌, ◌==◌, List, [], ◌∷◌, ◌++◌, length, take, Some, None}
use Rattle.std.specs.List.{list_all}
use Rattle.std.specs.Char.{IsScalar}
use Rattle.std.specs.Str.Parse.{digits_value}
use Rattle.htmlescape.specs.Names.{named}
use Rattle.htmlescape.specs.Grammar.{Item, spelled, meaning, are_digits, fault_at}
use Rattle.htmlescape.specs.declared.faults.DecodeErrKind.{DecodeErrKind}
use Rattle.htmlescape.specs.declared.faults.DecodeErrKind.TheVariants.{MalformedNumEscape, InvalidCharacter, PrematureEnd}
use Rattle.htmlescape.specs.declared.name.ShortName.{ShortName}
use Rattle.htmlescape.specs.declared.state.State.{State}
use Rattle.htmlescape.specs.declared.state.State.TheVariants.{Text, Ampersand, Named, Hash, HexMark, Decimal, Hexadecimal}
use Rattle.htmlescape.specs.declared.state.Step.{Step}
use Rattle.htmlescape.specs.declared.state.Step.TheVariants.{More, Whole, Fault}

-- A name of up to eight bytes is kept; of any other it is known that no name of the table begins with it.
pub record Keeps (short : ShortName) (name : List ℕ) : Type 0 where
  pub known : short.count ≤ 8 → name ≡ take short.count short.bytes
  pub size : short.count ≤ 8 → length name ≡ short.count
  pub lost : 8 < short.count → (more : List ℕ) → named (name ++ more) ≡ None

-- a front of a name: it has no `;`, and doesn't begin with `#`
abbrev pub begins_name : List ℕ → Bool
begins_name [] = false
begins_name (c ∷ cs) = not (c == 35) && list_all (λ d. not (d == 59)) (c ∷ cs)

-- the digits' value is kept, or 2^32 in place of a greater one
abbrev pub KeepsNumber : ℕ → ℕ → List ℕ → Type 0
KeepsNumber base value digits = (are_digits base digits ≡ true) × (value ≡ min (digits_value base digits) 4294967296)

-- the characters of the unfinished entity
abbrev pub Pending : State → List ℕ → Type 0
Pending Text pending = pending ≡ []
Pending Ampersand pending = pending ≡ 38 ∷ []
Pending (Named short) pending = (name : List ℕ) × (pending ≡ 38 ∷ name) × (begins_name name ≡ true) × Keeps short name
Pending Hash pending = pending ≡ 38 ∷ 35 ∷ []
Pending HexMark pending = pending ≡ 38 ∷ 35 ∷ 120 ∷ []
Pending (Decimal value) pending = (digits : List ℕ) × (pending ≡ 38 ∷ 35 ∷ digits) × KeepsNumber 10 value digits
Pending (Hexadecimal value) pending =
    (digits : List ℕ) × (pending ≡ 38 ∷ 35 ∷ 120 ∷ digits) × KeepsNumber 16 value digits

-- no item of the grammar begins these characters
abbrev pub NoItem : List ℕ → Type 0
NoItem rest = (item : Item) (c : ℕ) (more : List ℕ) → meaning item ≡ Some c → rest ≢ spelled item ++ more

-- the fault is this one, however the text goes on
pub record Faulty (fault : DecodeErrKind) (front : List ℕ) : Type 0 where
  pub none : (more : List ℕ) → NoItem (front ++ more)
  pub kind : (more : List ℕ) → fault ≡ fault_at (front ++ more)
  pub met : fault ≢ PrematureEnd

-- what the next character makes of an unfinished entity
abbrev pub Stepped : List ℕ → Step → Type 0
Stepped front (More state) = Pending state front
Stepped front (Whole c) = IsScalar c × (item : Item) × (spelled item ≡ front) × (meaning item ≡ Some c)
Stepped front (Fault fault) = Faulty fault front

-- what a character that is no digit makes of a number with this value, where 2^32 stands for any greater one
abbrev pub Judged : ℕ → ℕ → Step → Type 0
Judged value c (More state) = ⊥
Judged value c (Whole found) = (c ≡ 59) × (value < 4294967296) × (found ≡ value) × IsScalar found
Judged value c (Fault MalformedNumEscape) = (c ≢ 59) ⊎ (4294967296 ≤ value)
Judged value c (Fault InvalidCharacter) = (c ≡ 59) × (value < 4294967296) × ¬ (IsScalar value)
Judged value c (Fault fault) = ⊥
