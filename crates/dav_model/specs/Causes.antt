-- What the fields of a request that writes are the cause of: a refusal of what they ask for, and a precondition.
use Rattle.std.specs.Prelude.{◌≡◌, ◌⊎◌, ◌||◌, ℕ, Bool, true, false, List, codes, Some, Err, is_some}
use Rattle.dav_core.specs.declared.dav_error.DavError.{DavError}
use Rattle.dav_core.specs.declared.method.DavMethod.{DavMethod}
use Rattle.dav_core.specs.declared.method.DavMethod.TheVariants.{Copy, Move}
use Rattle.dav_core.specs.Statuses.{status_of}
use Rattle.dav_model.specs.Conditions.{Fields, date_in, first_bytes, list_in}
use Rattle.dav_model.specs.Destination.{Asks, overwrite_of}

-- The fields have a precondition of a method that writes, and one that can be read.
abbrev pub has_condition : Fields → Bool
has_condition fields = is_some (list_in fields (codes "if-match"))
    || (is_some (date_in fields (codes "if-unmodified-since")) || is_some (list_in fields (codes "if-none-match")))

-- What the fields of a COPY or a MOVE ask for is refused as a bad request.
abbrev pub AsksBadly : Bool → List ℕ → Fields → Type 0
AsksBadly moving prefix fields = (e : DavError) × Asks moving prefix fields (Err e) × (status_of e ≡ 400)

abbrev pub IsBad : DavMethod → List ℕ → Fields → Type 0
IsBad Copy prefix fields = AsksBadly false prefix fields
IsBad Move prefix fields = AsksBadly true prefix fields
IsBad other prefix fields = ⊥

-- A COPY or a MOVE is to replace nothing.
abbrev pub Spares : DavMethod → Fields → Type 0
Spares Copy fields = overwrite_of (first_bytes fields (codes "overwrite")) ≡ Some false
Spares Move fields = overwrite_of (first_bytes fields (codes "overwrite")) ≡ Some false
Spares other fields = ⊥

-- The fields are the cause of the two statuses that come of fields alone: 400 only where they ask for what is refused so,
-- and 412 only where they have a precondition that can be read, or say that nothing is to be replaced.
pub record IsDueTo (method : DavMethod) (prefix : List ℕ) (fields : Fields) (status : ℕ) : Type 0 where
  pub asked : status ≡ 400 → IsBad method prefix fields
  pub unmet : status ≡ 412 → (has_condition fields ≡ true) ⊎ Spares method fields
