-- Reads of a file, one after the other.
use Rattle.std.proofs.Common.{◌≡◌, ◌≤◌, ◌+◌, ◌-◌, ◌++◌, ℕ, min, add-zero, add_assoc, List, [], length, take, drop, true, None, Some, Result, Ok, Err, refl, sym, ap, subst, ◌∙◌, inl, inr, arith}
use Rattle.std.proofs.Math.Seq.{take-add}
use Rattle.std.proofs.lemmas.List.{append-nil, drop-drop, take-append-drop, take_all}
use Rattle.std.proofs.lemmas.Grind.{common_steps}
use Rattle.dav_core.specs.declared.error.FsError.{FsError}
use Rattle.dav_core.specs.declared.error.FsError.TheVariants.{NoMemory}
use Rattle.dav_core.specs.Disk.{DiskState, can_read}
use Rattle.dav_core.specs.Info.{Info}
use Rattle.dav_core.specs.Unchanged.{KeepsBut}
use Rattle.dav_core.proofs.UnchangedLemmas.{but_then, keeps_but, keeps_same}
use Rattle.dav_store.specs.Files.{Spoiled, moved_by, rest_of}
use Rattle.dav_store.specs.Standing.{Seen}
use Rattle.dav_store.specs.View.{View, Closes, Says, seen_in}
use Rattle.dav_selection.specs.Pieces.{Appends, Asks, ClosesAfter, InPieces, ReadSoFar, Touches, next_read, none_read, piece_size}
use Rattle.dav_selection.specs.Resources.{ReadsTo}
use Rattle.dav_store.proofs.Reading.{rose_from}

spoiled_from : {A B : Type 0} (s m t : DiskState) (e : FsError) → s.faults ≤ m.faults → Spoiled {T = A} m (Err e) t → Spoiled {T = B} s (Err e) t
spoiled_from s m t e le (inl fault) = let same = fault.0 in inl (cc, rose_from s.faults m.faults t.faults le fault.1)
spoiled_from s m t e le (inr memory) = inr cc

-- the front that was read, and the next bytes
front_more : (k n : ℕ) (rest bytes new : List ℕ) → bytes ≡ take k rest → length bytes ≡ k → k ≤ length rest → n ≤ length (drop k rest)
    → new ≡ bytes ++ take n (drop k rest) → new ≡ take (k + n) rest
front_more k n rest bytes new front long within more e = e ∙ (ap (λ xs. xs ++ take n (drop k rest)) front ∙ sym (take-add k n rest))

-- all that stands was read
all_there : (len : ℕ) (rest bytes : List ℕ) → bytes ≡ take (length bytes) rest → length bytes ≤ length rest → length bytes ≤ len
    → drop (length bytes) rest ≡ [] → bytes ≡ take len rest
all_there len rest bytes front within le none =
    let whole : bytes ≡ rest = front ∙ (sym (append-nil (take (length bytes) rest)) ∙ (ap (λ xs. take (length bytes) rest ++ xs) (sym none) ∙ take-append-drop (length bytes) rest)) in
    let short : length rest ≤ len = subst (λ xs. length xs ≤ len) whole le in
    whole ∙ sym (take_all len rest short)

module _ {S C F : Type 0} (view : View S C F) where
  pub touches_same : (s : S) (file : F) → view.lends s s → Touches view s file s file
  touches_same s file same = record {
    keeps = keeps_but (view.file.handle file) (view.state s) (view.state s) (keeps_same (view.state s));
    live = refl;
    handle = refl;
    lent = record { store = same; loan = refl };
  }

  pub touches_then : ((a b c : S) → view.lends a b → view.lends b c → view.lends a c) → (s m t : S) (file g h : F) → Touches view s file m g
      → Touches view m g t h → Touches view s file t h
  touches_then then s m t file g h p q = record {
    keeps = but_then (view.file.handle file) (view.state s) (view.state m) (view.state t) p.keeps (subst (λ n. KeepsBut n (view.state m) (view.state t)) p.handle q.keeps);
    live = subst (λ n. (view.state t).live n ≡ (view.state m).live n) p.handle q.live ∙ p.live;
    handle = q.handle ∙ p.handle;
    lent = record { store = then s m t p.lent.store q.lent.store; loan = q.lent.loan ∙ p.lent.loan };
  }

  pub closes_then : ((a b c : S) → view.lends a b → view.lends b c → view.lends a c) → (s m t : S) (file g : F) → Touches view s file m g
      → Closes view m g t → ClosesAfter view (view.file.handle file) s t
  closes_then then s m t file g p q = record {
    keeps = but_then (view.file.handle file) (view.state s) (view.state m) (view.state t) p.keeps (subst (λ n. KeepsBut n (view.state m) (view.state t)) p.handle q.done.keeps);
    live = subst (λ n. (view.state t).live n ≡ None) p.handle q.done.live;
    lent = record { store = then s m t p.lent.store q.lent.store; loan = q.lent.loan ∙ p.lent.loan };
  }

  pub closes_before : ((a b c : S) → view.lends a b → view.lends b c → view.lends a c) → (s m t : S) (file g : F) → Touches view s file m g
      → ClosesAfter view (view.file.handle g) m t → ClosesAfter view (view.file.handle file) s t
  closes_before then s m t file g p q = record {
    keeps = but_then (view.file.handle file) (view.state s) (view.state m) (view.state t) p.keeps (subst (λ n. KeepsBut n (view.state m) (view.state t)) p.handle q.keeps);
    live = subst (λ n. (view.state t).live n ≡ None) p.handle q.live;
    lent = record { store = then s m t p.lent.store q.lent.store; loan = q.lent.loan ∙ p.lent.loan };
  }

  pub so_far_none : (f : Seen) (s : S) (file : F) → seen_in view s file ≡ Some f → ReadSoFar view f [] s file
  so_far_none f s file is = record {
    at = is ∙ ap (λ p. Some (record f { place = p })) (sym (add-zero f.place));
    front = refl;
    within = omega arith;
  }

  pub so_far_more : (f : Seen) (bytes new : List ℕ) (n : ℕ) (m t : S) (file g : F) → ReadSoFar view f bytes m file
      → Appends view (moved_by (length bytes) f) bytes (Ok n) new t g
      → length new ≡ length bytes + n → ReadSoFar view f new t g
  so_far_more f bytes new n m t file g far (at, within, is, none) long =
      let rest : rest_of (moved_by (length bytes) f) ≡ drop (length bytes) (rest_of f) = sym (drop-drop (length bytes) f.place f.stands.bytes) in
      let fits : n ≤ length (drop (length bytes) (rest_of f)) = subst (λ xs. n ≤ length xs) rest within in
      let more : new ≡ bytes ++ take n (drop (length bytes) (rest_of f)) = is ∙ ap (λ xs. bytes ++ take n xs) rest in
      let front : new ≡ take (length bytes + n) (rest_of f) = front_more (length bytes) n (rest_of f) bytes new far.front refl far.within fits more in
      record {
        at = at ∙ ap (λ p. Some (record f { place = p })) (add_assoc f.place (length bytes) n ∙ ap (λ k. f.place + k) (sym long));
        front = front ∙ ap (λ k. take k (rest_of f)) (sym long);
        within = more_within (rest_of f) (length bytes) n (length new) long far.within fits;
      }
    where
      more_within : (rest : List ℕ) (k n j : ℕ) → j ≡ k + n → k ≤ length rest → n ≤ length (drop k rest) → j ≤ length rest
      more_within rest k n j e le fits = grind (arith, common_steps)

  pub said_touches : (s m : S) (file g : F) (said : Result Info FsError) → Says view s file said m g → Touches view s file m g
  said_touches s m file g said says = record {
    keeps = keeps_but (view.file.handle file) (view.state s) (view.state m) says.done.keeps;
    live = says.done.keeps.live (view.file.handle file);
    handle = says.handle;
    lent = says.lent;
  }

  -- a read was refused
  pub stops_after : ((a b c : S) → view.lends a b → view.lends b c → view.lends a c) → (s m t : S) (file g h : F) (len : ℕ) (e : FsError)
      → Touches view s file m g → Touches view m g t h
      → (can_read ((view.state m).live (view.file.handle g)) ≡ true → Spoiled {T = ℕ} (view.state m) (Err e) (view.state t))
      → (had : ℕ) → InPieces view len s file had t h → ReadsTo view s file len (Err e) t h
  stops_after then s m t file g h len e p q refused had pieces =
      let all = touches_then then s m t file g h p q in
      record {
        keeps = all.keeps;
        live = all.live;
        handle = all.handle;
        lent = all.lent;
        refused = λ can. spoiled_from {A = ℕ} {B = List ℕ} (view.state s) (view.state m) (view.state t) e p.keeps.counts
            (refused (ap (λ n. can_read ((view.state m).live n)) p.handle ∙ (ap can_read p.live ∙ can)));
        within = tt;
        told = λ f is. tt;
        had = had;
        pieces = pieces;
        given = tt;
      }

  -- so many bytes were read
  pub full_after : (s t : S) (file h : F) (len : ℕ) (bytes : List ℕ) → Touches view s file t h
      → ((f : Seen) → seen_in view s file ≡ Some f → ReadSoFar view f bytes t h)
      → length bytes ≡ len → InPieces view len s file (length bytes) t h → ReadsTo view s file len (Ok bytes) t h
  full_after s t file h len bytes p told long pieces = record {
    keeps = p.keeps;
    live = p.live;
    handle = p.handle;
    lent = p.lent;
    refused = λ can. tt;
    within = omega arith;
    told = λ f is. let far = told f is in far.front ∙ ap (λ k. take k (rest_of f)) long;
    had = length bytes;
    pieces = pieces;
    given = refl;
  }

  -- no byte came
  pub ends_after : ((a b c : S) → view.lends a b → view.lends b c → view.lends a c) → (s m t : S) (file g h : F) (len left n : ℕ) (bytes new : List ℕ)
      → Touches view s file m g → Touches view m g t h
      → ((f : Seen) → seen_in view s file ≡ Some f → ReadSoFar view f bytes m g)
      → ((f : Seen) → seen_in view m g ≡ Some f → Appends view f bytes (Ok n) new t h)
      → n ≡ 0 → length bytes + left ≡ len → length new ≡ length bytes + n → InPieces view len s file (length new) t h → ReadsTo view s file len (Ok new) t h
  ends_after then s m t file g h len left n bytes new p q told next none count long pieces =
      let all = touches_then then s m t file g h p q in
      let most : length new ≤ len = omega arith in
      let same : length new ≡ length bytes = omega arith in
      record {
        keeps = all.keeps;
        live = all.live;
        handle = all.handle;
        lent = all.lent;
        refused = λ can. tt;
        within = most;
        told = λ f is.
            let far = told f is in
            let more = next (moved_by (length bytes) f) far.at in
            let on = so_far_more f bytes new n m t g h far more long in
            let over : drop (length bytes) (rest_of f) ≡ [] = drop-drop (length bytes) f.place f.stands.bytes ∙ more.3 none in
            all_there len (rest_of f) new on.front on.within most (ap (λ k. drop k (rest_of f)) same ∙ over);
        had = length new;
        pieces = pieces;
        given = refl;
      }

  -- memory for the first piece was refused
  pub starved_before : (s : S) (file : F) (len : ℕ) → view.lends s s → ReadsTo view s file len (Err NoMemory) s file
  starved_before s file len same =
      let touches = touches_same s file same in
      record {
        keeps = touches.keeps;
        live = touches.live;
        handle = touches.handle;
        lent = touches.lent;
        refused = λ can. inr refl;
        within = tt;
        told = λ f is. tt;
        had = 0;
        pieces = none_read;
        given = tt;
      }

  -- one read more
  pub pieces_more : (len left size n new : ℕ) (had : ℕ) (s m t : S) (file g h : F) → InPieces view len s file had m g → Asks view (min left size) n m g t h
      → had + left ≡ len → size ≡ piece_size → had + n ≡ new → InPieces view len s file new t h
  pieces_more len left size n new had s m t file g h before asks count is all =
      let rest : left ≡ len - had = omega (arith, count) in
      let here = subst (λ (k : ℕ). Asks view (min k size) n m g t h) rest asks in
      let piece = subst (λ (k : ℕ). Asks view (min (len - had) k) n m g t h) is here in
      subst (λ (k : ℕ). InPieces view len s file k t h) all (next_read had n m t g h before piece)
