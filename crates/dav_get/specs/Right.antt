-- What is answered, as a reply.
use Rattle.std.specs.Prelude.{◌≡◌, ℕ, Option, None, Some, Ok, Err}
use Rattle.std.specs.Option.{option_map}
use Rattle.dav_core.specs.Statuses.{status_of, closes}
use Rattle.dav_model.specs.Conditions.{Fields}
use Rattle.dav_model.specs.Head.{Reply, refusal}
use Rattle.dav_store.specs.Standing.{Seen}
use Rattle.dav_store.specs.View.{View, seen_in}
use Rattle.dav_get.specs.declared.open_at.OpenAt.{OpenAt}
use Rattle.dav_get.specs.Bodies.{left_of, parts_of}
use Rattle.dav_get.specs.Table.{Given}

-- What is answered to a request with these fields, with slices of the file of this number. An error is a refusal.
abbrev pub reply_at : {F : Type 0} → Fields → ℕ → Given F → Reply
reply_at fields number (Ok r) = record {
  status = r.0.status;
  fields = r.0.fields;
  parts = parts_of number (left_of r.1);
}
reply_at fields number (Err e) = refusal fields (status_of e) (closes e)

-- the number of an open file, where it is told
abbrev pub number_told : Option Seen → Option ℕ
number_told seen = option_map (λ f. f.stands.number) seen

abbrev pub or_zero : Option ℕ → ℕ
or_zero None = 0
or_zero (Some number) = number

module _ {S C F : Type 0} (view : View S C F) where
  -- The file that the body has open has this number, where one is told.
  abbrev pub IsOfNumber : Option ℕ → S → Given F → Type 0
  IsOfNumber number t (Ok r) = (h : OpenAt F) → r.1.file ≡ Some h → number_told (seen_in view t h.file) ≡ number
  IsOfNumber number t (Err e) = Unit {0}
