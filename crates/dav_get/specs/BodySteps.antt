-- A body as steps.
use Rattle.std.specs.Prelude.{◌+◌, ℕ, List, [], ◌∷◌, Bool, true, false, Option, None, Some, Result, Ok, Err}
use Rattle.dav_core.specs.Disk.{DiskState}
use Rattle.dav_body.specs.declared.fault.BodyFault.{BodyFault}
use Rattle.dav_body.specs.declared.fault.BodyFault.TheVariants.{Broken as BodyBroken, NoMemory}
use Rattle.dav_model.specs.declared.answer.Answer.TheVariants.{Piece, End, Broken}
use Rattle.dav_store.specs.FileView.{FileView}
use Rattle.dav_get.specs.declared.part.BodyPart.{BodyPart}
use Rattle.dav_get.specs.declared.part.BodyPart.TheVariants.{Text, Slice as SliceOf}
use Rattle.dav_get.specs.declared.body.GetBody.{GetBody}
use Rattle.dav_get.specs.Bodies.{left_of, Polls, IsPolled, SameLeft}

module _ {F : Type 0} (files : FileView F) where
  -- One step: a piece, the end, or a break, as a poll gives them; or want of memory, and then the same is left.
  abbrev pub StepGives : DiskState → GetBody F → Option (Result (List ℕ) BodyFault) → DiskState → GetBody F → Type 0
  StepGives s b None t c = IsPolled files s b End t c
  StepGives s b (Some (Ok bytes)) t c = IsPolled files s b (Piece bytes) t c
  StepGives s b (Some (Err BodyBroken)) t c = IsPolled files s b Broken t c
  StepGives s b (Some (Err NoMemory)) t c = SameLeft files s b t c

  -- the same, by what a poll does alone
  abbrev pub Takes : DiskState → GetBody F → Option (Result (List ℕ) BodyFault) → DiskState → GetBody F → Type 0
  Takes s b None t c = Polls files s b End t c
  Takes s b (Some (Ok bytes)) t c = Polls files s b (Piece bytes) t c
  Takes s b (Some (Err BodyBroken)) t c = Polls files s b Broken t c
  Takes s b (Some (Err NoMemory)) t c = SameLeft files s b t c

-- the item, the error, or the end
abbrev pub item_of : Result (Option (List ℕ)) BodyFault → Option (Result (List ℕ) BodyFault)
item_of (Ok None) = None
item_of (Ok (Some bytes)) = Some (Ok bytes)
item_of (Err fault) = Some (Err fault)

-- one for each text, and the bytes of the slices
abbrev pub size : List BodyPart → ℕ
size [] = 0
size (Text bytes ∷ parts) = 1 + size parts
size (SliceOf slice ∷ parts) = slice.count + size parts

-- a bound on the pieces to come
abbrev pub most_of : {F : Type 0} → GetBody F → ℕ
most_of b = size (left_of b)

-- A break is the end; want of memory isn't.
abbrev pub ends_of : BodyFault → Bool
ends_of BodyBroken = true
ends_of NoMemory = false
