-- A poll of a body is a poll of the parts that it has left.
use Rattle.std.proofs.Common.{◌≡◌, ◌+◌, ◌-◌, ◌==◌, ℕ, List, [], ◌∷◌, length, drop, cond, Bool, true, false, Option, None, Some, refl, sym, ◌∙◌, ap, inl, inr}
use Rattle.std.specs.Prelude.{is_some}
use Rattle.std.specs.List.{list_any}
use Rattle.dav_io.specs.Counts.{Rose}
use Rattle.dav_io.proofs.ToldLemmas.{told_before}
use Rattle.dav_core.specs.Disk.{DiskState}
use Rattle.dav_core.specs.World.{World, bytes_of}
use Rattle.dav_model.specs.declared.ranges.Slice.{Slice}
use Rattle.dav_model.specs.declared.answer.Answer.{Answer}
use Rattle.dav_model.specs.declared.answer.Answer.TheVariants.{Piece}
use Rattle.dav_model.specs.Bodies.{slice, PieceOf, Polls as PollsParts}
use Rattle.dav_store.specs.FileView.{FileView}
use Rattle.dav_get.specs.declared.part.BodyPart.{BodyPart}
use Rattle.dav_get.specs.declared.part.BodyPart.TheVariants.{Text, Slice as SliceOf}
use Rattle.dav_get.specs.declared.open_at.OpenAt.{OpenAt}
use Rattle.dav_get.specs.declared.body.GetBody.{GetBody}
use Rattle.dav_get.specs.OpenFiles.{IsPieceOf}
use Rattle.dav_get.specs.Bodies.{left_of, is_slice, IsHeld, Takes, TouchesOwn, HasNumber, StandsIn, Polls, IsPolled, parts_of}

passed_parts : (b : Bool) (number : ℕ) (part : Slice) (n : ℕ) (parts : List BodyPart) → (part.count - n == 0) ≡ b
    → parts_of number (cond b parts (SliceOf (record { start = part.start + n; count = part.count - n }) ∷ parts))
    ≡ cond b (parts_of number parts) (slice number (part.start + n) (part.count - n) ∷ parts_of number parts)
passed_parts true number part n parts e = refl
passed_parts false number part n parts e = refl

module _ {F : Type 0} (files : FileView F) where
  -- The number stays.
  pub number_stays : (s t : DiskState) (f g : Option (OpenAt F)) (number : ℕ) → TouchesOwn files s f t g → HasNumber files.seen s f number → HasNumber files.seen t g number
  number_stays s t None None number touches has h k is told = cc
  number_stays s t None (Some g) number touches has h k is told = absurd touches
  number_stays s t (Some f) None number touches has h k is told = cc
  number_stays s t (Some f) (Some g) number touches has h k is told =
      let e : h ≡ g = cc in
      let (j, at, same) = told_before (files.seen f.file s) (files.seen g.file t) (λ a b. b.stands ≡ a.stands) k touches.3 (rw e at told) in
      ap (λ st. st.number) same ∙ has f j refl at

  -- the bytes of the world are those that are seen
  bytes_right : (s : DiskState) (file : Option (OpenAt F)) (told : Option World) (number most : ℕ) (part : Slice) (piece : List ℕ)
      → is_some file ≡ true → StandsIn files.seen s told file → HasNumber files.seen s file number
      → ((h : OpenAt F) → file ≡ Some h → IsPieceOf files.seen s h part most piece)
      → (w : World) → told ≡ Some w → PieceOf s.whole most (drop part.start (bytes_of w number)) part.count piece
  bytes_right s None told number most part piece some stands has are w e = cc
  bytes_right s (Some h) told number most part piece some stands has are w e =
      let (f, at, bytes) = stands w h e refl in
      let same : f.stands.number ≡ number = has h f refl at in
      rw (sym (bytes ∙ ap (bytes_of w) same)) ((are h refl).told f at)

  pub takes_right : (s t : DiskState) (b : GetBody F) (left : List BodyPart) (answer : Answer) (rest : List BodyPart) (told : Option World) (number : ℕ)
      → (list_any is_slice left ≡ true → is_some b.file ≡ true) → StandsIn files.seen s told b.file → HasNumber files.seen s b.file number
      → Takes files.seen s b (Rose s.faults t.faults) left answer rest
      → PollsParts told s.whole b.most (Rose s.faults t.faults) (parts_of number left) answer (parts_of number rest)
  takes_right s t b [] answer rest told number needs stands has (end, none) = (end, ap (parts_of number) none)
  takes_right s t b (Text bytes ∷ parts) answer rest told number needs stands has (is, left) = inl (bytes, is, (refl, ap (parts_of number) left))
  takes_right s t b (SliceOf part ∷ parts) answer rest told number needs stands has (inr (is, none, rose)) = inr (is, ap (parts_of number) none, rose)
  takes_right s t b (SliceOf part ∷ parts) answer rest told number needs stands has (inl (piece, is, are, some, within, left)) =
      inl (
        piece,
        is,
        (
          some,
          within,
          ap (parts_of number) left ∙ passed_parts _ number part (length piece) parts refl,
          bytes_right s b.file told number b.most part piece (needs refl) stands has are,
        ),
      )

  pub polls_right : (s t : DiskState) (b c : GetBody F) (answer : Answer) → IsHeld files s b → Polls files s b answer t c → IsPolled files s b answer t c
  polls_right s t b c answer held polls = record {
    does = polls;
    right = λ told parts stands has. (
      parts_of has.number (left_of c),
      record { number = has.number; are = refl; file = number_stays s t b.file c.file has.number polls.disk has.file },
      rw has.are (takes_right s t b (left_of b) answer (left_of c) told has.number held.needs stands has.file polls.takes),
    );
  }

  -- the same piece
  pub same_piece : (s t : DiskState) (b c : GetBody F) (piece other : List ℕ) → piece ≡ other → IsPolled files s b (Piece other) t c → IsPolled files s b (Piece piece) t c
  same_piece s t b c piece other is polled = rw is polled
