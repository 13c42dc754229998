-- How far a decoder has come in a text.
use Rattle.std.specs.Prelude.{◌≡◌, ◌≢◌, ◌+◌, ℕ, List, [], ◌∷◌, ◌++◌, length, Option, Some, None, Result, Ok, Err}
use Rattle.std.specs.Char.{IsScalar}
use Rattle.htmlescape.specs.Grammar.{Item, spelled, meaning, IsText, Begins, HasFault}
use Rattle.htmlescape.specs.Running.{Pending}
use Rattle.htmlescape.specs.declared.decoder.Decoder.{Decoder}
use Rattle.htmlescape.specs.declared.faults.DecodeErr.{DecodeErr}
use Rattle.htmlescape.specs.declared.faults.DecodeErrKind.TheVariants.{PrematureEnd}

-- The text that was read is whole items, which stand for this value, and an unfinished entity.
pub record Running (decoder : Decoder) (text value : List ℕ) : Type 0 where
  pub pending : List ℕ
  pub front : Begins text value pending
  pub keeps : Pending decoder.state pending
  pub read : decoder.read ≡ length text
  pub place : decoder.place + length pending ≡ length text

-- The last item of the text stands for c, and so many characters and this value are before it.
pub record Completes (text value : List ℕ) (c place : ℕ) : Type 0 where
  pub before : List ℕ
  pub item : Item
  pub text_is : text ≡ before ++ spelled item
  pub front : IsText before value
  pub means : meaning item ≡ Some c
  pub place_is : place ≡ length before

-- what the next character makes of it
abbrev pub Took : ℕ → List ℕ → List ℕ → ℕ → Result (Option ℕ) DecodeErr → Decoder → Type 0
Took place text value c (Ok None) decoder = Running decoder (text ++ c ∷ []) value
Took place text value c (Ok (Some found)) decoder =
    IsScalar found × Running decoder (text ++ c ∷ []) (value ++ found ∷ [])
    × IsText (text ++ c ∷ []) (value ++ found ∷ []) × Completes (text ++ c ∷ []) value found place
Took place text value c (Err e) decoder =
    (e.kind ≢ PrematureEnd) × ((more : List ℕ) → HasFault (text ++ c ∷ more) e.kind e.position value)

-- what the end of the text makes of it
abbrev pub Ended : List ℕ → List ℕ → Result (Unit {0}) DecodeErr → Type 0
Ended text value (Ok u) = IsText text value
Ended text value (Err e) = (e.kind ≡ PrematureEnd) × HasFault text PrematureEnd e.position value
