-- A file whose content is looked for stays open, and is read from its first byte on.
use Rattle.std.specs.Prelude.{◌≡◌, ◌+◌, ◌&&◌, ◌==◌, ◌⊎◌, ℕ, List, length, Bool, true, false, Option, None, Some, IfOk, IsErr, IsSome, Result, Ok, Err, refl}
use Rattle.std.specs.Option.{option_map}
use Rattle.std.proofs.Common.{sym, ap, subst, ◌∙◌, inl, inr, arith}
use Rattle.std.proofs.lemmas.Bool.{and_parts}
use Rattle.dav_io.specs.declared.failure.NoMemory.{NoMemory}
use Rattle.dav_io.proofs.ToldLemmas.{told_before}
use Rattle.dav_core.specs.declared.error.FsError.{FsError}
use Rattle.dav_core.specs.Disk.{DiskState}
use Rattle.dav_core.specs.Info.{Info}
use Rattle.dav_core.specs.Unchanged.{KeepsBut}
use Rattle.dav_core.specs.Writing.{reading}
use Rattle.dav_core.proofs.UnchangedLemmas.{but_then, closed_again, equal_keys, keeps_but, keeps_same}
use Rattle.dav_store.proofs.Staying.{open_kept}
use Rattle.dav_store.specs.Frames.{IsOpened, IsUnopened, KeepsOpenBut, OpensOne}
use Rattle.dav_store.specs.Standing.{Seen}
use Rattle.dav_store.specs.View.{Closes, Says, View, seen_in}
use Rattle.dav_readcache.specs.declared.cached.CachedFile.{CachedFile}
use Rattle.dav_readcache.specs.declared.cached.Reading.{Reading}
use Rattle.dav_readcache.specs.declared.keeping.Wanted.{Wanted}
use Rattle.dav_readcache.specs.Cached.{IsKnown, IsShut, cached_file, pending_at, place_of, reads_by, seen_as}
use Rattle.dav_readcache.specs.Opening.{EndsOpen, Fetches, FrontIn, Holds, HoldsBy, HoldsOpened, HoldsWanted, Keeps, KeepsWhere, Opening, ReadsFront, Starves, holding, says_tag, unheld, wanted_by}
use Rattle.dav_readcache.specs.Shelf.{ShelfState, bytes_for}
use Rattle.dav_readcache.proofs.Stepping.{place_placed}

-- It is read from its first byte on, where the store's file has read so many bytes.
abbrev pub IsReadFrom : ℕ → Result Reading NoMemory → Type 0
IsReadFrom n (Ok r) = (r.at ≡ Some n) × (r.pending ≡ pending_at (Some n) 0)
IsReadFrom n (Err e) = Unit {0}

pub refused_any : (n : ℕ) (result : Result Reading NoMemory) → IsErr result → IsReadFrom n result
refused_any n (Ok r) e = cc
refused_any n (Err x) e = tt

pub is_unheld : (n : ℕ) (result : Result Reading NoMemory) → result ≡ Ok (unheld n) → IsReadFrom n result
is_unheld n result e = subst (IsReadFrom n) (sym e) (refl, refl)

pub is_holding : (tag bytes : List ℕ) (n : ℕ) (result : Result Reading NoMemory) → result ≡ Ok (holding tag bytes n) → IsReadFrom n result
is_holding tag bytes n result e = subst (IsReadFrom n) (sym e) (refl, refl)

pub kept_from : (n : ℕ) (tag bytes : List ℕ) (s t : ShelfState) (result : Result Reading NoMemory) → n ≡ length bytes → Keeps tag bytes s result t → IsReadFrom n result
kept_from n tag bytes s t result e (inl done) = is_holding tag bytes n result (done.0 ∙ ap (λ k. Ok (holding tag bytes k)) (sym e))
kept_from n tag bytes s t result e (inr refused) = refused_any n result refused.0

pub kept_where : (b : Bool) (n len : ℕ) (tag buffer : List ℕ) (s t : ShelfState) (result : Result Reading NoMemory) (same : Bool) → ((n == len) && same) ≡ b → length buffer ≡ len
    → KeepsWhere b tag buffer n s result t → IsReadFrom n result
kept_where true n len tag buffer s t result same all is keeps = kept_from n tag buffer s t result (let e : n ≡ len = equal_keys n len (and_parts (n == len) same all).0 in omega (arith, e, is)) keeps
kept_where false n len tag buffer s t result same all is keeps = is_unheld n result keeps.0

module _ {S C F : Type 0} (view : View S C F) where
  -- what is kept from the store's opening on, where the store's file has read so many bytes
  record Follows (s : S) (file : F) (n : ℕ) (t : S) (after : F) : Type 0 where
    keeps : KeepsBut (view.file.handle file) (view.state s) (view.state t)
    live : (view.state t).live (view.file.handle file) ≡ (view.state s).live (view.file.handle file)
    handle : view.file.handle after ≡ view.file.handle file
    loan : view.loan t ≡ view.loan s
    reads_from : view.file.reads_from after (view.state t)
    place : (f : Seen) → seen_in view t after ≡ Some f → f.place ≡ n

  follows_same : (s : S) (file : F) → view.file.reads_from file (view.state s) → ((f : Seen) → seen_in view s file ≡ Some f → f.place ≡ 0) → Follows s file 0 s file
  follows_same s file reads place = record {
    keeps = keeps_but (view.file.handle file) (view.state s) (view.state s) (keeps_same (view.state s));
    live = refl;
    handle = refl;
    loan = refl;
    reads_from = reads;
    place = place;
  }

  follows_says : (s m t : S) (file g k : F) (n : ℕ) (said : Result Info FsError) → Follows s file n m g → Says view m g said t k → Follows s file n t k
  follows_says s m t file g k n said follows says = record {
    keeps = but_then (view.file.handle file) (view.state s) (view.state m) (view.state t) follows.keeps (keeps_but (view.file.handle file) (view.state m) (view.state t) says.done.keeps);
    live = says.done.keeps.live (view.file.handle file) ∙ follows.live;
    handle = says.handle ∙ follows.handle;
    loan = says.lent.loan ∙ follows.loan;
    reads_from = says.reads_from follows.reads_from;
    place = λ f is. follows.place f (sym says.done.same ∙ is);
  }

  moved_place : (buffer : List ℕ) (n : ℕ) (f g : Seen) → f.place ≡ 0 → FrontIn buffer n f g → g.place ≡ n
  moved_place buffer n f g at front = let e : g.place ≡ f.place + n = ap (λ (x : Seen). x.place) front.2 in omega (arith, e, at)

  follows_reads : (s m t : S) (file g k : F) (buffer : List ℕ) (n : ℕ) → Follows s file 0 m g → ReadsFront view m g buffer n t k → Follows s file n t k
  follows_reads s m t file g k buffer n follows reads = record {
    keeps = but_then (view.file.handle file) (view.state s) (view.state m) (view.state t) follows.keeps (subst (λ h. KeepsBut h (view.state m) (view.state t)) follows.handle reads.keeps);
    live = subst (λ h. (view.state t).live h ≡ (view.state m).live h) follows.handle reads.live ∙ follows.live;
    handle = reads.handle ∙ follows.handle;
    loan = reads.lent.loan ∙ follows.loan;
    reads_from = reads.reads_from;
    place = λ f is. let (a, seen, front) = told_before (seen_in view m g) (seen_in view t k) (FrontIn buffer n) f reads.told is in moved_place buffer n a f (follows.place a seen) front;
  }

  -- where a content is looked for
  record Stands (p : Opening S F) (result : Result Reading NoMemory) (q : Opening S F) : Type 0 where
    count : ℕ
    follows : Follows p.store p.file count q.store q.file
    from : IsReadFrom count result

  stands_at : (p m q : Opening S F) (result : Result Reading NoMemory) (n : ℕ) → Follows p.store p.file n m.store m.file → q.store ≡ m.store → q.file ≡ m.file → IsReadFrom n result → Stands p result q
  stands_at p m q result n follows store file from = record {
    count = n;
    follows = subst (λ x. Follows p.store p.file n x q.file) (sym store) (subst (λ x. Follows p.store p.file n m.store x) (sym file) follows);
    from = from;
  }

  starved : (p m q : Opening S F) (result : Result Reading NoMemory) → Follows p.store p.file 0 m.store m.file → Starves m result q → Stands p result q
  starved p m q result follows starves = stands_at p m q result 0 follows (ap (λ (x : Opening S F). x.store) starves.same) (ap (λ (x : Opening S F). x.file) starves.same) (refused_any 0 result starves.refused)

  fetched : (p m q : Opening S F) (result : Result Reading NoMemory) (wanted : Wanted) → Follows p.store p.file 0 m.store m.file → Fetches view wanted m result q → Stands p result q
  fetched p m q result wanted follows fetches =
      let read = follows_reads p.store m.store fetches.store p.file m.file fetches.file fetches.buffer fetches.count follows fetches.reads.reads in
      record {
        count = fetches.count;
        follows = follows_says p.store fetches.store q.store p.file fetches.file q.file fetches.count fetches.said read fetches.says;
        from = kept_where ((fetches.count == wanted.len) && says_tag wanted.tag fetches.said) fetches.count wanted.len wanted.tag fetches.buffer m.shelf q.shelf result (says_tag wanted.tag fetches.said) refl fetches.len fetches.keeps;
      }

  held_by : (found : Option (List ℕ)) (p m q : Opening S F) (result : Result Reading NoMemory) (wanted : Wanted) → Follows p.store p.file 0 m.store m.file → HoldsBy view found wanted m result q → Stands p result q
  held_by (Some bytes) p m q result wanted follows (inl held) =
      stands_at p m q result 0 follows (ap (λ (x : Opening S F). x.store) held.1) (ap (λ (x : Opening S F). x.file) held.1) (is_holding wanted.tag bytes 0 result held.0)
  held_by (Some bytes) p m q result wanted follows (inr starves) = starved p m q result follows starves
  held_by None p m q result wanted follows (inl starves) = starved p m q result follows starves
  held_by None p m q result wanted follows (inr fetches) = fetched p m q result wanted follows fetches

  held_where : (wanted : Option Wanted) (p m q : Opening S F) (result : Result Reading NoMemory) → Follows p.store p.file 0 m.store m.file → HoldsWanted view wanted m result q → Stands p result q
  held_where None p m q result follows held = stands_at p m q result 0 follows (ap (λ (x : Opening S F). x.store) held.1) (ap (λ (x : Opening S F). x.file) held.1) (is_unheld 0 result held.0)
  held_where (Some wanted) p m q result follows held = held_by (bytes_for wanted.tag m.shelf) p m q result wanted follows held

  holds_stands : (p q : Opening S F) (result : Result Reading NoMemory) → view.file.reads_from p.file (view.state p.store) → ((f : Seen) → seen_in view p.store p.file ≡ Some f → f.place ≡ 0)
      → Holds view p result q → Stands p result q
  holds_stands p q result reads place holds = by holds.holds
    where
      asked : Follows p.store p.file 0 holds.store holds.file
      asked = follows_says p.store p.store holds.store p.file p.file holds.file 0 holds.said (follows_same p.store p.file reads place) holds.says

      at : Opening S F
      at = record p { store = holds.store; file = holds.file }

      by : Starves (record p { store = holds.store; file = holds.file }) result q ⊎ HoldsWanted view (wanted_by p.shelf.most holds.said) (record p { store = holds.store; file = holds.file }) result q → Stands p result q
      by (inl starves) = starved p (record p { store = holds.store; file = holds.file }) q result asked starves
      by (inr held) = held_where (wanted_by p.shelf.most holds.said) p (record p { store = holds.store; file = holds.file }) q result asked held

  -- ---- what the opening leaves

  others_of : (h : ℕ) (s t : DiskState) → KeepsBut h s t → KeepsOpenBut h s t
  others_of h s t kept = record { counts = kept.counts; asked = kept.asked; whole = kept.whole; listers = kept.listers; listings = kept.listings; live = kept.live; opens = kept.opens }

  first_place : (r : Reading) (n : ℕ) (seen : Option Seen) → r.pending ≡ pending_at (Some n) 0 → ((f : Seen) → seen ≡ Some f → f.place ≡ n)
      → (f : Seen) → option_map (seen_as r) seen ≡ Some f → f.place ≡ 0
  first_place r n None from place f is = cc
  first_place r n (Some g) from place f is =
      let e : seen_as r g ≡ f = some_is f (seen_as r g) is in
      ap (λ (x : Seen). x.place) (sym e) ∙ (ap (λ x. place_of x g.place) from ∙ place_placed (Some n) 0 g.place (λ a at. place g refl ∙ some_nat n a at))
    where
      some_is : (a b : Seen) → ◌≡◌ {A = Option Seen} (Some b) (Some a) → b ≡ a
      some_is a b e = cc

      some_nat : (a b : ℕ) → ◌≡◌ {A = Option ℕ} (Some a) (Some b) → a ≡ b
      some_nat a b e = cc

  known_at : (r : Reading) (n : ℕ) (seen : Option Seen) → r.at ≡ Some n → ((f : Seen) → seen ≡ Some f → f.place ≡ n) → IsKnown r seen
  known_at r n seen at place = (λ some. rw at refl, λ a f is told. place f told ∙ same a is)
    where
      same : (a : ℕ) → r.at ≡ Some a → n ≡ a
      same a is = cc

  -- What was kept, and how a file that is opened is read.
  opened_as : (s : DiskState) (p q : Opening S F) (r : Reading) (n : ℕ) → IsOpened reading s (view.file.handle p.file) (seen_in view p.store p.file) (view.state p.store) → Follows p.store p.file n q.store q.file
      → IsReadFrom n (Ok r) → IsOpened reading s (view.file.handle q.file) (option_map (seen_as r) (seen_in view q.store q.file)) (view.state q.store)
  opened_as s p q r n opened follows from =
      let kept = but_then (view.file.handle p.file) s (view.state p.store) (view.state q.store) (opened.kept refl) follows.keeps in
      subst (λ h. IsOpened reading s h (option_map (seen_as r) (seen_in view q.store q.file)) (view.state q.store)) (sym follows.handle) (record {
        others = others_of (view.file.handle p.file) s (view.state q.store) kept;
        kept = λ _. kept;
        fresh = opened.fresh;
        live = subst (λ x. IsSome x) (sym follows.live) opened.live;
        options = λ l is. opened.options l (sym follows.live ∙ is);
        place = first_place r n (seen_in view q.store q.file) from.1 follows.place;
      })

  closed_as : (s : DiskState) (p q : Opening S F) (t : S) (n : ℕ) → IsOpened reading s (view.file.handle p.file) (seen_in view p.store p.file) (view.state p.store) → Follows p.store p.file n q.store q.file
      → Closes view q.store q.file t → IsUnopened reading s (view.state t)
  closed_as s p q t n opened follows closes =
      let h = view.file.handle p.file in
      let kept = but_then h s (view.state p.store) (view.state t) (opened.kept refl) (but_then h (view.state p.store) (view.state q.store) (view.state t) follows.keeps
      (subst (λ h. KeepsBut h (view.state q.store) (view.state t)) follows.handle closes.done.keeps)) in
      let all = closed_again h s (view.state t) kept opened.fresh (subst (λ h. (view.state t).live h ≡ None) follows.handle closes.done.live) in
      record { others = open_kept s (view.state t) all; kept = λ _. all }

  -- A file that was opened and holds its content, where that was had, is one that was opened.
  pub record IsOpenedHeld (s : DiskState) (p : Opening S F) (result : Result (CachedFile F) FsError) (t : S) : Type 0 where
    pub one : OpensOne (cached_file view.file) reading s result (view.state t)
    pub loan : view.loan t ≡ view.loan p.store
    pub reads_from : IfOk result (λ file. reads_by view.file file (view.state t))

  shut_after : (p q : Opening S F) (n : ℕ) (r : Reading) (s : DiskState) → IsOpened reading s (view.file.handle p.file) (seen_in view p.store p.file) (view.state p.store) → Follows p.store p.file n q.store q.file
      → IsShut (Some r) ((view.state q.store).live (view.file.handle q.file))
  shut_after p q n r s opened follows l is = opened.options l (sym follows.live ∙ (ap (view.state q.store).live (sym follows.handle) ∙ is))

  ends_held : (s : DiskState) (p q : Opening S F) (held : Result Reading NoMemory) (result : Result (CachedFile F) FsError) (t : S) (shelf : ShelfState) (n : ℕ)
      → IsOpened reading s (view.file.handle p.file) (seen_in view p.store p.file) (view.state p.store) → Follows p.store p.file n q.store q.file → IsReadFrom n held → EndsOpen view held q result t shelf → IsOpenedHeld s p result t
  ends_held s p q (Ok r) result t shelf n opened follows from ends =
      subst (λ x. IsOpenedHeld s p x t) (sym ends.0) (subst (λ x. IsOpenedHeld s p (Ok (record { file = q.file; reading = Some r })) x) (sym ends.1) (record {
        one = opened_as s p q r n opened follows from;
        loan = follows.loan;
        reads_from = (follows.reads_from, known_at r n (seen_in view q.store q.file) from.0 follows.place, shut_after p q n r s opened follows);
      }))
  ends_held s p q (Err e) result t shelf n opened follows from ends =
      subst (λ x. IsOpenedHeld s p x t) (sym ends.0) (record {
        one = closed_as s p q t n opened follows ends.1;
        loan = ends.1.lent.loan ∙ follows.loan;
        reads_from = tt;
      })

  pub opened_held : (s : DiskState) (p : Opening S F) (result : Result (CachedFile F) FsError) (t : S) (shelf : ShelfState) → IsOpened reading s (view.file.handle p.file) (seen_in view p.store p.file) (view.state p.store)
      → view.file.reads_from p.file (view.state p.store) → HoldsOpened view p result t shelf → IsOpenedHeld s p result t
  opened_held s p result t shelf opened reads holds =
      let stands = holds_stands p holds.at holds.held reads opened.place holds.holds in
      ends_held s p holds.at holds.held result t shelf stands.count opened stands.follows stands.from holds.ends
