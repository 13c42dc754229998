-- A step leaves no more than there was, and a piece leaves less.
use Rattle.std.proofs.Common.{◌≡◌, ◌≤◌, ◌<◌, ◌+◌, ◌-◌, ◌==◌, ℕ, List, [], ◌∷◌, length, cond, Bool, true, false, Option, None, Some, Result, Ok, Err, refl, ap, inl, inr, arith}
use Rattle.dav_io.specs.Counts.{Rose}
use Rattle.dav_core.specs.Disk.{DiskState}
use Rattle.dav_body.specs.declared.fault.BodyFault.{BodyFault}
use Rattle.dav_body.specs.declared.fault.BodyFault.TheVariants.{Broken as BodyBroken, NoMemory}
use Rattle.dav_body.specs.Steps.{IfItem, IfGoesOn}
use Rattle.dav_model.specs.declared.ranges.Slice.{Slice}
use Rattle.dav_model.specs.declared.answer.Answer.{Answer}
use Rattle.dav_model.specs.declared.answer.Answer.TheVariants.{Piece, End, Broken}
use Rattle.dav_store.specs.FileView.{FileView}
use Rattle.dav_get.specs.declared.part.BodyPart.{BodyPart}
use Rattle.dav_get.specs.declared.part.BodyPart.TheVariants.{Text, Slice as SliceOf}
use Rattle.dav_get.specs.declared.body.GetBody.{GetBody}
use Rattle.dav_get.specs.Bodies.{left_of, IsHeld, passed, Takes}
use Rattle.dav_get.specs.BodySteps.{StepGives, Takes as StepTakes, size, most_of, ends_of}
use Rattle.dav_get.proofs.BodyRight.{polls_right}

passed_size : (b : Bool) (slice : Slice) (n : ℕ) (parts : List BodyPart) → (slice.count - n == 0) ≡ b → 0 < n → n ≤ slice.count
    → size (cond b parts (SliceOf (record { start = slice.start + n; count = slice.count - n }) ∷ parts)) < slice.count + size parts
passed_size true slice n parts e some within = omega arith
passed_size false slice n parts e some within = omega arith

module _ {F : Type 0} (files : FileView F) where
  piece_less : (s : DiskState) (b : GetBody F) (cause : Type 0) (left : List BodyPart) (piece : List ℕ) (rest : List BodyPart)
      → Takes files.seen s b cause left (Piece piece) rest → size rest < size left
  piece_less s b cause [] piece rest (is, none) = cc
  piece_less s b cause (Text bytes ∷ parts) piece rest (is, left) = rw left (omega arith)
  piece_less s b cause (SliceOf slice ∷ parts) piece rest (inl (p, is, are, some, within, left)) = rw left (passed_size _ slice (length p) parts refl some within)
  piece_less s b cause (SliceOf slice ∷ parts) piece rest (inr (is, none, rose)) = cc

  never_more : (s : DiskState) (b : GetBody F) (cause : Type 0) (left : List BodyPart) (answer : Answer) (rest : List BodyPart)
      → Takes files.seen s b cause left answer rest → size rest ≤ size left
  never_more s b cause [] answer rest (is, none) = rw none (omega arith)
  never_more s b cause (Text bytes ∷ parts) answer rest (is, left) = rw left (omega arith)
  never_more s b cause (SliceOf slice ∷ parts) answer rest (inl (p, is, are, some, within, left)) =
      let less : size (passed slice (length p) parts) < slice.count + size parts = passed_size _ slice (length p) parts refl some within in rw left (omega arith)
  never_more s b cause (SliceOf slice ∷ parts) answer rest (inr (is, none, rose)) = rw none (omega arith)

  pub step_fewer : (s t : DiskState) (b c : GetBody F) (told : Option (Result (List ℕ) BodyFault)) → StepTakes files s b told t c → IfItem told (most_of c < most_of b)
  step_fewer s t b c None takes = tt
  step_fewer s t b c (Some (Ok bytes)) takes = piece_less s b (Rose s.faults t.faults) (left_of b) bytes (left_of c) takes.takes
  step_fewer s t b c (Some (Err fault)) takes = tt

  pub step_no_more : (s t : DiskState) (b c : GetBody F) (told : Option (Result (List ℕ) BodyFault)) → StepTakes files s b told t c → most_of c ≤ most_of b
  step_no_more s t b c None takes = never_more s b (Rose s.faults t.faults) (left_of b) End (left_of c) takes.takes
  step_no_more s t b c (Some (Ok bytes)) takes = never_more s b (Rose s.faults t.faults) (left_of b) (Piece bytes) (left_of c) takes.takes
  step_no_more s t b c (Some (Err BodyBroken)) takes = never_more s b (Rose s.faults t.faults) (left_of b) Broken (left_of c) takes.takes
  step_no_more s t b c (Some (Err NoMemory)) takes = rw takes.left (omega arith)

  pub step_same : (s t : DiskState) (b c : GetBody F) (told : Option (Result (List ℕ) BodyFault)) → StepTakes files s b told t c → IfGoesOn ends_of told (most_of c ≡ most_of b)
  step_same s t b c None takes = tt
  step_same s t b c (Some (Ok bytes)) takes = tt
  step_same s t b c (Some (Err BodyBroken)) takes = λ e. cc
  step_same s t b c (Some (Err NoMemory)) takes = λ e. ap size takes.left

  pub step_held : (s t : DiskState) (b c : GetBody F) (told : Option (Result (List ℕ) BodyFault)) → StepTakes files s b told t c → IsHeld files t c
  step_held s t b c None takes = takes.held
  step_held s t b c (Some (Ok bytes)) takes = takes.held
  step_held s t b c (Some (Err BodyBroken)) takes = takes.held
  step_held s t b c (Some (Err NoMemory)) takes = takes.held

  pub step_right : (s t : DiskState) (b c : GetBody F) (told : Option (Result (List ℕ) BodyFault)) → IsHeld files s b → StepTakes files s b told t c → StepGives files s b told t c
  step_right s t b c None held takes = polls_right files s t b c End held takes
  step_right s t b c (Some (Ok bytes)) held takes = polls_right files s t b c (Piece bytes) held takes
  step_right s t b c (Some (Err BodyBroken)) held takes = polls_right files s t b c Broken held takes
  step_right s t b c (Some (Err NoMemory)) held takes = takes
