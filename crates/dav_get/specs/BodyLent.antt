-- What a body is, once the piece that borrows from it is over.
use Rattle.std.specs.Prelude.{⊤}
use Rattle.std.specs.Borrow.{follows_so, MutBor, Fml, RattleType}
use mathlib.Core.Option.{none}
use Rattle.dav_core.specs.Disk.{DiskState}
use Rattle.dav_model.specs.declared.answer.Answer.{Answer}
use Rattle.dav_model.specs.declared.answer.Answer.TheVariants.{Piece, End, Broken}
use Rattle.dav_store.specs.FileView.{FileView}
use Rattle.dav_get.specs.declared.body.GetBody.{GetBody}
use Rattle.dav_get.specs.declared.body.Polled.{Polled}
use Rattle.dav_get.specs.declared.body.Polled.TheVariants.{Piece as LentPiece, End as LentEnd, Broken as LentBroken}
use Rattle.dav_get.specs.contracts.body.GetBody.{the_row}
use Rattle.dav_get.specs.Bodies.{IsPolled}

-- what is lent, as an answer
abbrev pub answer_in : Polled → Answer
answer_in (LentPiece piece) = Piece piece.now
answer_in LentEnd = End
answer_in LentBroken = Broken

module _ (F : RattleType) (files : FileView F.Denot) where
  -- The body ends as one that was polled with this answer.
  abbrev pub EndsPolled : DiskState → DiskState → MutBor (GetBody F.Denot) → GetBody F.Denot → Polled → Fml
  EndsPolled s t entry before result =
      follows_so (the_row F) (the_row F) entry.ghost_name none (λ _ _. ⊤)
      (λ after. IsPolled files s before (answer_in result) t after)
