-- What a body does with its file, in steps one after another.
use Rattle.std.proofs.Common.{zero, suc, ◌+◌, add-one, drop-cons, get_or, ◌≡◌, ◌<◌, ◌-◌, ℕ, List, [], ◌∷◌, drop, length, length-drop, arith, true, false, Option, None, Some, refl, sym, ◌∙◌, ap}
use Rattle.std.specs.Prelude.{is_some}
use Rattle.std.specs.List.{list_all, list_any}
use Rattle.dav_io.proofs.ToldLemmas.{both_then, both_same}
use Rattle.dav_core.specs.Disk.{DiskState}
use Rattle.dav_core.proofs.UnchangedLemmas.{keeps_same, keeps_but, but_then}
use Rattle.dav_store.specs.FileView.{FileView}
use Rattle.dav_store.specs.Standing.{Seen}
use Rattle.dav_get.specs.declared.part.BodyPart.{BodyPart}
use Rattle.dav_get.specs.declared.part.BodyPart.TheVariants.{Text}
use Rattle.dav_get.specs.declared.open_at.OpenAt.{OpenAt}
use Rattle.dav_get.specs.declared.body.GetBody.{GetBody}
use Rattle.dav_get.specs.OpenFiles.{IsAt, SameStands}
use Rattle.dav_get.specs.Bodies.{left_of, is_part, is_slice, has_room, text_of, IsText, IsHeld, Closes, Passes, TouchesOwn}

-- something is left before the end of a list
pub some_left : {A : Type 0} (xs : List A) (n : ℕ) → n < length xs → drop n xs ≡ [] → ⊥
some_left xs n lt e = let none : length xs - n ≡ 0 = sym (length-drop n xs) ∙ ap length e in omega arith

-- the element at a place, and what follows it
pub first_is : {A : Type 0} (xs : List A) (n : ℕ) (r x : A) → n < length xs → r ≡ get_or xs n r → r ≡ x → drop n xs ≡ x ∷ drop (n + 1) xs
first_is xs n r x lt at is = rw add-one (drop-cons xs n r lt ∙ ap (λ y. y ∷ drop (suc n) xs) (sym at ∙ is))

-- the text at a place
pub text_here : (xs : List BodyPart) (n : ℕ) (r : BodyPart) (bytes : List ℕ) → IsText (drop n xs) → r ≡ get_or xs n r → r ≡ Text bytes → text_of (drop n xs) ≡ bytes
text_here [] zero r bytes text at is = absurd text
text_here [] (suc n) r bytes text at is = absurd text
text_here (x ∷ xs) zero r bytes text at is = let e : x ≡ Text bytes = sym at ∙ is in rw e refl
text_here (x ∷ xs) (suc n) r bytes text at is = text_here xs n r bytes text at is

pub same_stands : (a : Option Seen) → SameStands a a
same_stands a = both_same a a (λ f g. g.stands ≡ f.stands) (λ f. refl) refl

stands_then : (a b c : Option Seen) → SameStands a b → SameStands b c → SameStands a c
stands_then a b c p q = both_then a b c (λ f g. g.stands ≡ f.stands) (λ f g. g.stands ≡ f.stands) (λ f g. g.stands ≡ f.stands) (λ f g h e k. k ∙ e) p q

module _ {F : Type 0} (files : FileView F) where
  pub touches_none : (s : DiskState) (file : Option (OpenAt F)) → TouchesOwn files s file s file
  touches_none s None = refl
  touches_none s (Some h) = (keeps_but (files.handle h.file) s s (keeps_same s), refl, refl, same_stands (files.seen h.file s), files.becomes_same h.file)

  pub touches_then : (s m t : DiskState) (f g k : Option (OpenAt F)) → TouchesOwn files s f m g → TouchesOwn files m g t k → TouchesOwn files s f t k
  touches_then s m t None None None p q = q ∙ p
  touches_then s m t None None (Some k) p q = absurd q
  touches_then s m t None (Some g) k p q = absurd p
  touches_then s m t (Some h) None None (keeps, closed) q = rw q (keeps, closed)
  touches_then s m t (Some h) None (Some k) p q = absurd q
  touches_then s m t (Some h) (Some g) None (keeps, same, live, stands, becomes) (more, closed) =
      (but_then (files.handle h.file) s m t keeps (rw same at more), rw same at closed)
  touches_then s m t (Some h) (Some g) (Some k) (keeps, same, live, stands, becomes) (more, still, alive, also, on) =
      (but_then (files.handle h.file) s m t keeps (rw same at more), still ∙ same, (rw same at alive) ∙ live, stands_then _ _ _ stands also, files.becomes_then h.file g.file k.file becomes on)

  pub closes_touch : (s t : DiskState) (file : Option (OpenAt F)) → Closes files.handle s file t → TouchesOwn files s file t None
  closes_touch s t None same = same
  closes_touch s t (Some h) closed = (closed.keeps, closed.live)

  pub passes_touch : (s t : DiskState) (b : GetBody F) (left : List BodyPart) (file : Option (OpenAt F)) → Passes files.handle s b left t file → TouchesOwn files s b.file t file
  passes_touch s t b [] file (none, closes) = rw none (closes_touch s t b.file closes)
  passes_touch s t b (part ∷ parts) file (same, still) = rw (same, still) (touches_none s b.file)

  -- What closes a file asks nothing.
  pub closes_ask : (s t : DiskState) (file : Option (OpenAt F)) → Closes files.handle s file t → t.asked ≡ s.asked
  closes_ask s t None same = ap (λ (x : DiskState). x.asked) same
  closes_ask s t (Some h) closed = closed.asked

  pub passes_ask : (s t : DiskState) (b : GetBody F) (left : List BodyPart) (file : Option (OpenAt F)) → Passes files.handle s b left t file → t.asked ≡ s.asked
  passes_ask s t b [] file (none, closes) = closes_ask s t b.file closes
  passes_ask s t b (part ∷ parts) file (same, still) = ap (λ (x : DiskState). x.asked) still

  -- something is left, and nothing was done
  pub goes_on : (s : DiskState) (b : GetBody F) (left : List BodyPart) → (left ≡ [] → ⊥) → Passes files.handle s b left s b.file
  goes_on s b [] some = absurd (some refl)
  goes_on s b (part ∷ parts) some = (refl, refl)

  needs_then : (s t : DiskState) (b : GetBody F) (left : List BodyPart) (file : Option (OpenAt F)) → Passes files.handle s b left t file
      → (list_any is_slice left ≡ true → is_some b.file ≡ true) → list_any is_slice left ≡ true → is_some file ≡ true
  needs_then s t b [] file passes needs has = cc
  needs_then s t b (part ∷ parts) file (same, still) needs has = rw same (needs has)

  over_then : (s t : DiskState) (b : GetBody F) (left : List BodyPart) (file : Option (OpenAt F)) → Passes files.handle s b left t file → left ≡ [] → is_some file ≡ false
  over_then s t b [] file (none, closes) over = rw none refl
  over_then s t b (part ∷ parts) file passes over = cc

  file_then : (s t : DiskState) (b : GetBody F) (left : List BodyPart) (file : Option (OpenAt F)) → Passes files.handle s b left t file
      → ((h : OpenAt F) → b.file ≡ Some h → IsAt files s h) → (h : OpenAt F) → file ≡ Some h → IsAt files t h
  file_then s t b [] file (none, closes) at h is = cc
  file_then s t b (part ∷ parts) file (same, still) at h is = rw still (at h (sym same ∙ is))

  -- a body stays held where it goes on
  pub held_then : (s t : DiskState) (b c : GetBody F) → IsHeld files s b → Passes files.handle s b (left_of c) t c.file
      → list_all is_part (left_of c) ≡ true → (list_any is_slice (left_of c) ≡ true → list_any is_slice (left_of b) ≡ true)
      → list_all (has_room b.most (length b.buffer.items)) (left_of c) ≡ true
      → c.most ≡ b.most → length c.buffer.items ≡ length b.buffer.items → IsHeld files t c
  held_then s t b c held passes parts slices fit most room = record {
    parts = parts;
    needs = needs_then s t b (left_of c) c.file passes (λ has. held.needs (slices has));
    over = over_then s t b (left_of c) c.file passes;
    some = λ has. rw most (held.some (slices has));
    room = rw (most, room) fit;
    file = file_then s t b (left_of c) c.file passes held.file;
  }
