-- A body at its end stays there.
use Rattle.std.proofs.Common.{◌≡◌, List, [], ◌∷◌, false, Option, None, Some, sym, ◌∙◌, ◌⊎◌, inl, inr}
use Rattle.std.specs.Prelude.{is_some}
use Rattle.dav_core.specs.Disk.{DiskState}
use Rattle.dav_model.specs.declared.answer.Answer.{Answer}
use Rattle.dav_model.specs.declared.answer.Answer.TheVariants.{Piece, End, Broken}
use Rattle.dav_store.specs.FileView.{FileView}
use Rattle.dav_get.specs.declared.part.BodyPart.{BodyPart}
use Rattle.dav_get.specs.declared.part.BodyPart.TheVariants.{Text, Slice as SliceOf}
use Rattle.dav_get.specs.declared.open_at.OpenAt.{OpenAt}
use Rattle.dav_get.specs.declared.body.GetBody.{GetBody}
use Rattle.dav_get.specs.Bodies.{left_of, Takes, TouchesOwn, Polls}

module _ {F : Type 0} (files : FileView F) where
  over_after : (s : DiskState) (b : GetBody F) (cause : Type 0) (left : List BodyPart) (answer : Answer) (rest : List BodyPart)
      → Takes files.seen s b cause left answer rest → (answer ≡ End) ⊎ (answer ≡ Broken) → rest ≡ []
  over_after s b cause [] answer rest (is, none) ends = none
  over_after s b cause (Text bytes ∷ parts) answer rest (is, left) (inl end) = let e : Piece bytes ≡ End = sym is ∙ end in cc
  over_after s b cause (Text bytes ∷ parts) answer rest (is, left) (inr broken) = let e : Piece bytes ≡ Broken = sym is ∙ broken in cc
  over_after s b cause (SliceOf slice ∷ parts) answer rest (inr (is, none, rose)) ends = none
  over_after s b cause (SliceOf slice ∷ parts) answer rest (inl (piece, is, are, some, within, left)) (inl end) = let e : Piece piece ≡ End = sym is ∙ end in cc
  over_after s b cause (SliceOf slice ∷ parts) answer rest (inl (piece, is, are, some, within, left)) (inr broken) = let e : Piece piece ≡ Broken = sym is ∙ broken in cc

  untouched : (s t : DiskState) (f g : Option (OpenAt F)) → is_some f ≡ false → TouchesOwn files s f t g → t ≡ s
  untouched s t None None none touches = touches
  untouched s t None (Some g) none touches = absurd touches
  untouched s t (Some f) g none touches = cc

  pub ended_stay : (s t u v : DiskState) (b c d : GetBody F) (answer later : Answer) → Polls files s b answer t c → (answer ≡ End) ⊎ (answer ≡ Broken)
      → Polls files u c later v d → (later ≡ End) × (v ≡ u)
  ended_stay s t u v b c d answer later first ends next =
      let over = over_after s b _ (left_of b) answer (left_of c) first.takes ends in
      ((rw over at next.takes).0, untouched u v c.file d.file (first.held.over over) next.disk)
