-- What is made ready before a file is given.
use Rattle.std.specs.Prelude.{◌≡◌, ◌⊎◌, ℕ, List, [], ◌∷◌, true, vec_len, max}
use Rattle.std.specs.List.{list_all, AllByRecursion}
use Rattle.dav_core.specs.declared.method.DavMethod.{DavMethod}
use Rattle.dav_core.specs.DavPath.{WebPath}
use Rattle.dav_core.specs.Info.{Info}
use Rattle.dav_model.specs.declared.sent.Sent.{Sent}
use Rattle.dav_get.specs.declared.buffer.ReadBuffer.{ReadBuffer}
use Rattle.dav_get.specs.declared.part.BodyPart.{BodyPart}
use Rattle.dav_get.specs.declared.part.BodyPart.TheVariants.{Text, Slice as SliceOf}
use Rattle.dav_get.specs.declared.prepared.Prepared.{Prepared}
use Rattle.dav_get.specs.Bodies.{is_part, has_room}
use Rattle.dav_get.specs.Table.{IsOutcome, ArePartsOf}
use Rattle.dav_model.specs.Slices.{IsWithin}
use Rattle.dav_model.specs.declared.sent.Sent.TheVariants.{All, Alone, Unsatisfied, One, Several}

-- the most bytes of a slice
abbrev pub longest : List BodyPart → ℕ
longest [] = 0
longest (Text bytes ∷ parts) = longest parts
longest (SliceOf slice ∷ parts) = max slice.count (longest parts)

-- Each part is sound, and there is room for their pieces.
pub record AreReady (size : ℕ) (parts : List BodyPart) (buffer : ReadBuffer) : Type 0 where
  pub sound : list_all is_part parts ≡ true
  pub room : (parts ≡ []) ⊎ ((buffer.most ≡ size)
      × (list_all (has_room buffer.most (vec_len buffer.bytes)) parts ≡ true))

pub record IsPrepared (size : ℕ) (method : DavMethod) (path : WebPath) (info : Info) (sent : Sent)
    (p : Prepared) : Type 0 where
  pub outcome_is : IsOutcome method path info sent p.outcome
  pub are : ArePartsOf method path info sent p.parts.items
  pub ready : AreReady size p.parts.items p.buffer

-- ---- slices that lie in a file

-- what is sent of a file of this length is there
abbrev pub IsSentOf : ℕ → Sent → Type 0
IsSentOf len All = Unit {0}
IsSentOf len (Alone status) = Unit {0}
IsSentOf len Unsatisfied = Unit {0}
IsSentOf len (One part) = IsWithin len part
IsSentOf len (Several parts) = AllByRecursion (IsWithin len) parts
