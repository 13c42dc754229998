-- What a poll does with each kind of part.
use Rattle.std.proofs.Common.{◌≡◌, ◌≤◌, ◌<◌, ◌+◌, ◌-◌, ◌==◌, ℕ, List, [], ◌∷◌, length, take, cond, Bool, true, false, Option, None, Some, refl, sym, ap, ◌∙◌, inl, inr, arith}
use Rattle.std.specs.List.{list_all, list_any}
use Rattle.std.proofs.lemmas.Grind.{common_steps}
use Rattle.std.proofs.lemmas.Bool.Decides.{nat_tests}
use Rattle.dav_core.specs.Disk.{DiskState}
use Rattle.dav_model.specs.declared.ranges.Slice.{Slice}
use Rattle.dav_model.specs.declared.answer.Answer.{Answer}
use Rattle.dav_model.specs.declared.answer.Answer.TheVariants.{Broken, Piece}
use Rattle.dav_store.specs.FileView.{FileView}
use Rattle.dav_get.specs.declared.part.BodyPart.{BodyPart}
use Rattle.dav_get.specs.declared.part.BodyPart.TheVariants.{Text, Slice as SliceOf}
use Rattle.dav_get.specs.declared.open_at.OpenAt.{OpenAt}
use Rattle.dav_get.specs.declared.body.GetBody.{GetBody}
use Rattle.dav_get.specs.OpenFiles.{Fills}
use Rattle.dav_get.specs.Bodies.{left_of, is_part, is_slice, has_room, Closes, IsHeld, Passes, passed, TouchesOwn, Polls}
use Rattle.dav_get.proofs.Touching.{closes_touch, passes_ask, touches_then, passes_touch, held_then}

-- the parts that follow the first
later_parts : (part : BodyPart) (parts : List BodyPart) → list_all is_part (part ∷ parts) ≡ true → (is_part part ≡ true) × (list_all is_part parts ≡ true)
later_parts part parts all = grind (arith, common_steps)

moved_is_part : (b : Bool) (slice : Slice) (n : ℕ) (parts : List BodyPart) → (slice.count - n == 0) ≡ b → is_part (SliceOf slice) ≡ true → n ≤ slice.count → list_all is_part parts ≡ true
    → list_all is_part (cond b parts (SliceOf (record { start = slice.start + n; count = slice.count - n }) ∷ parts)) ≡ true
moved_is_part true slice n parts e is within all = all
moved_is_part false slice n parts e is within all = grind (arith, nat_tests)

moved_has_room : (b : Bool) (most room : ℕ) (slice : Slice) (n : ℕ) (parts : List BodyPart) → (slice.count - n == 0) ≡ b
    → list_all (has_room most room) (SliceOf slice ∷ parts) ≡ true
    → list_all (has_room most room) (cond b parts (SliceOf (record { start = slice.start + n; count = slice.count - n }) ∷ parts)) ≡ true
moved_has_room true most room slice n parts e all = grind (arith, common_steps)
moved_has_room false most room slice n parts e all = grind (arith, nat_tests)

-- the room for a slice that stands first
pub first_has_room : (most room : ℕ) (left : List BodyPart) (slice : Slice) (parts : List BodyPart) → left ≡ SliceOf slice ∷ parts → list_all (has_room most room) left ≡ true
    → has_room most room (SliceOf slice) ≡ true
first_has_room most room left slice parts is all = let both : list_all (has_room most room) (SliceOf slice ∷ parts) ≡ true = rw is at all in grind (arith, common_steps)

-- no slice is among no parts
no_slice : {X : Type 0} (left : List BodyPart) → list_any is_slice left ≡ true → left ≡ [] → X
no_slice left has over = let e : false ≡ true = sym (ap (list_any is_slice) over) ∙ has in cc

module _ {F : Type 0} (files : FileView F) where
  pub text_polls : (s t : DiskState) (b c : GetBody F) (bytes : List ℕ) (rest : List BodyPart) → left_of b ≡ Text bytes ∷ rest → IsHeld files s b
      → left_of c ≡ rest → Passes files.handle s b (left_of c) t c.file → c.most ≡ b.most → length c.buffer.items ≡ length b.buffer.items
      → (piece : List ℕ) → piece ≡ bytes → Polls files s b (Piece piece) t c
  text_polls s t b c bytes rest is held left passes most room piece same =
      let all = rw is at held.parts in
      let later = later_parts (Text bytes) rest all in record {
        disk = passes_touch files s t b (left_of c) c.file passes;
        takes = rw (is, same) (refl, left);
        asks = rw is (passes_ask files s t b (left_of c) c.file passes);
        held = held_then files s t b c held passes (rw left later.1) (λ has. rw is (rw left at has)) (rw left (rw is at held.room)) most room;
        bound = rw (is, same) (omega arith);
        most = most;
        room = room;
      }

  -- a body whose file was used, before its slice moves on
  pub held_filled : (s m : DiskState) (b c : GetBody F) (slice : Slice) (most : ℕ) (buffer : List ℕ) (n : ℕ) (h g : OpenAt F) → IsHeld files s b
      → Fills files s h slice most buffer (Some n) m g → b.file ≡ Some h → c.file ≡ Some g → left_of c ≡ left_of b → (left_of b ≡ [] → ⊥)
      → c.most ≡ b.most → length c.buffer.items ≡ length b.buffer.items → IsHeld files m c
  held_filled s m b c slice most buffer n h g held fills before after left some same room = record {
    parts = rw left held.parts;
    needs = λ has. rw after refl;
    over = λ none. absurd (some (sym left ∙ none));
    some = λ has. rw same (held.some (rw left at has));
    room = rw (same, room, left) held.room;
    file = λ k is. let e : k ≡ g = (let f : Some g ≡ Some k = sym after ∙ is in cc) in rw e fills.answer.4;
  }

  pub fill_touches : (s m : DiskState) (file other : Option (OpenAt F)) (slice : Slice) (most : ℕ) (buffer : List ℕ) (result : Option ℕ) (h g : OpenAt F)
      → Fills files s h slice most buffer result m g → file ≡ Some h → other ≡ Some g → TouchesOwn files s file m other
  fill_touches s m file other slice most buffer result h g fills before after = rw (before, after) (fills.keeps, fills.same, fills.live, fills.stands, fills.becomes)

  pub slice_polls : (s m t : DiskState) (b d c : GetBody F) (slice : Slice) (rest : List BodyPart) (most : ℕ) (buffer : List ℕ) (n : ℕ) (h g : OpenAt F)
      → left_of b ≡ SliceOf slice ∷ rest → IsHeld files s b → most ≡ b.most
      → Fills files s h slice most buffer (Some n) m g → b.file ≡ Some h → d.file ≡ Some g → left_of d ≡ left_of b
      → d.most ≡ b.most → length d.buffer.items ≡ length b.buffer.items
      → length buffer ≡ length b.buffer.items
      → left_of c ≡ passed slice n rest → Passes files.handle m d (left_of c) t c.file → c.most ≡ d.most → length c.buffer.items ≡ length d.buffer.items
      → (piece : List ℕ) → piece ≡ take n buffer → Polls files s b (Piece piece) t c
  slice_polls s m t b d c slice rest most buffer n h g is held size fills before after same dm dr len left passes cm cr piece front =
      let all = rw is at held.parts in
      let parts = later_parts (SliceOf slice) rest all in
      let inside : n ≤ length buffer = fills.answer.0 in
      let within : n ≤ slice.count = fills.answer.1 in
      let some : 0 < n = fills.answer.2 in
      let long : length (take n buffer) ≡ n = grind (arith, common_steps) in
      let there : IsHeld files m d = held_filled s m b d slice most buffer n h g held fills before after same (λ none. let e : SliceOf slice ∷ rest ≡ [] = sym is ∙ none in cc) dm dr in
      record {
        disk = touches_then files s m t b.file d.file c.file (fill_touches s m b.file d.file slice most buffer (Some n) h g fills before after) (passes_touch files m t d (left_of c) c.file passes);
        takes = rw (is, front) (inl (
          take n buffer,
          refl,
          (λ k file. let e : k ≡ h = (let f : Some h ≡ Some k = sym before ∙ file in cc) in rw (e, ← size) fills.answer.3),
          rw long some,
          rw long within,
          rw long left,
        ));
        asks = rw (is, before, passes_ask files m t d (left_of c) c.file passes) fills.asks;
        held = held_then files m t d c there passes (rw left (moved_is_part _ slice n rest refl parts.0 within parts.1)) (λ has. rw (same, is) refl)
            (rw (left, dm, dr) (moved_has_room _ b.most (length b.buffer.items) slice n rest refl (rw is at held.room))) cm cr;
        bound = rw (is, front, long) (omega arith);
        most = cm ∙ dm;
        room = cr ∙ dr;
      }

  -- the disk failed, and the file was closed
  pub broken_polls : (s m t : DiskState) (b c : GetBody F) (slice : Slice) (rest : List BodyPart) (most : ℕ) (buffer : List ℕ) (h g : OpenAt F)
      → left_of b ≡ SliceOf slice ∷ rest → Fills files s h slice most buffer None m g → b.file ≡ Some h → Closes files.handle m (Some g) t
      → left_of c ≡ [] → c.file ≡ None → c.most ≡ b.most → length c.buffer.items ≡ length b.buffer.items → Polls files s b Broken t c
  broken_polls s m t b c slice rest most buffer h g is fills before closes over none cm cr = record {
    disk = touches_then files s m t b.file (Some g) c.file (fill_touches s m b.file (Some g) slice most buffer None h g fills before refl)
        (rw none (closes_touch files m t (Some g) closes));
    takes = rw is (inr (refl, over, rw closes.counts fills.answer));
    asks = rw (is, before, closes.asked) fills.asks;
    held = record {
      parts = rw over refl;
      needs = λ has. no_slice (left_of c) has over;
      over = λ e. rw none refl;
      some = λ has. no_slice (left_of c) has over;
      room = rw over refl;
      file = λ k e. (let f : None ≡ Some k = sym none ∙ e in cc);
    };
    bound = tt;
    most = cm;
    room = cr;
  }

  -- another buffer of the same length changes nothing of a poll
  pub polls_over : (s t : DiskState) (b c d : GetBody F) (answer : Answer) → left_of d ≡ left_of c → d.file ≡ c.file → d.most ≡ c.most
      → length d.buffer.items ≡ length c.buffer.items → Polls files s b answer t c → Polls files s b answer t d
  polls_over s t b c d answer left file most room polls = record {
    disk = rw file polls.disk;
    takes = rw left polls.takes;
    held = record {
      parts = rw left polls.held.parts;
      needs = λ has. rw file (polls.held.needs (rw left at has));
      over = λ none. rw file (polls.held.over (rw left at none));
      some = λ has. rw most (polls.held.some (rw left at has));
      room = rw (left, most, room) polls.held.room;
      file = λ h e. polls.held.file h (sym file ∙ e);
    };
    asks = polls.asks;
    bound = polls.bound;
    most = most ∙ polls.most;
    room = room ∙ polls.room;
  }
