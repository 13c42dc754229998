-- Reads of a file to the front of a buffer, one after the other.
use Rattle.std.proofs.Common.{◌≡◌, ◌≤◌, ◌<◌, ◌+◌, ◌++◌, ℕ, add-zero, add_assoc, List, [], length, take, drop, Bool, Option, None, Some, IfSome, Result, Ok, Err, refl, sym, ap, subst, ◌∙◌, inl, inr, arith}
use Rattle.std.proofs.Math.Seq.{take-add}
use Rattle.std.proofs.lemmas.List.{drop-drop}
use Rattle.std.proofs.lemmas.Grind.{common_steps}
use Rattle.dav_io.specs.Told.{Both}
use Rattle.dav_io.proofs.ToldLemmas.{both_same, both_then}
use Rattle.dav_core.specs.declared.error.FsError.{FsError}
use Rattle.dav_core.specs.Disk.{can_read}
use Rattle.dav_core.specs.Unchanged.{KeepsBut}
use Rattle.dav_core.proofs.UnchangedLemmas.{but_then, keeps_but, keeps_same}
use Rattle.dav_store.proofs.Reading.{rose_from}
use Rattle.dav_store.specs.Files.{ReadsIn, moved_by, rest_of}
use Rattle.dav_store.specs.Standing.{Seen}
use Rattle.dav_store.specs.View.{Reads, View, seen_in}
use Rattle.dav_readcache.specs.Opening.{FilledTo, Fills, FrontIn, GaveNone, ReadsFront, ReadsWhole, one_more}

front_none : (buffer : List ℕ) (f : Seen) → FrontIn buffer 0 f f
front_none buffer f = (omega arith, refl, ap (λ p. record f { place = p }) (sym (add-zero f.place)))

rest_moved : (n : ℕ) (f g : Seen) → g ≡ moved_by n f → rest_of g ≡ drop n (rest_of f)
rest_moved n f g moved = ap rest_of moved ∙ sym (drop-drop n f.place f.stands.bytes)

longer : (rest : List ℕ) (n k : ℕ) → n ≤ length rest → k ≤ length (drop n rest) → n + k ≤ length rest
longer rest n k le fits = grind (arith, common_steps)

front_more : (whole : Bool) (old new : List ℕ) (n k : ℕ) (f g h : Seen) → take n new ≡ take n old → FrontIn old n f g → ReadsIn whole (drop n new) (Ok k) g h → FrontIn new (n + k) f h
front_more whole old new n k f g h same (within, front, moved) (fits, copied, none, all, on) =
    let rest = rest_moved n f g moved in
    let more : take k (drop n new) ≡ take k (drop n (rest_of f)) = copied ∙ ap (take k) rest in (
      longer (rest_of f) n k within (subst (λ xs. k ≤ length xs) rest fits),
      take-add n k new ∙ (ap (λ xs. take n new ++ xs) more ∙ (ap (λ xs. xs ++ take k (drop n (rest_of f))) (same ∙ front) ∙ sym (take-add n k (rest_of f)))),
      on ∙ (ap (moved_by k) moved ∙ ap (λ p. record f { place = p }) (add_assoc f.place n k)),
    )

front_kept : (whole : Bool) (old new : List ℕ) (n : ℕ) (e : FsError) (f g h : Seen) → take n new ≡ take n old → FrontIn old n f g → ReadsIn whole (drop n new) (Err e) g h → FrontIn new n f h
front_kept whole old new n e f g h same (within, front, moved) on = (within, same ∙ front, on ∙ moved)

over_when : (whole : Bool) (buffer : List ℕ) (g h : Seen) → ReadsIn whole buffer (Ok 0) g h → rest_of h ≡ []
over_when whole buffer g h (fits, copied, none, all, on) = ap rest_of on ∙ (ap (λ p. drop p g.stands.bytes) (add-zero g.place) ∙ none refl)

over_told : (whole : Bool) (buffer : List ℕ) (a b : Option Seen) → Both a b (ReadsIn whole buffer (Ok 0)) → IfSome b (λ h. rest_of h ≡ [])
over_told whole buffer None None told = tt
over_told whole buffer None (Some h) told = absurd told
over_told whole buffer (Some g) None told = absurd told
over_told whole buffer (Some g) (Some h) told = over_when whole buffer g h told

module _ {S C F : Type 0} (view : View S C F) where
  -- none at all
  pub reads_none : (s : S) (file : F) (buffer : List ℕ) → view.lends s s → view.file.reads_from file (view.state s) → ReadsFront view s file buffer 0 s file
  reads_none s file buffer same reads = record {
    within = omega arith;
    reads_from = reads;
    keeps = keeps_but (view.file.handle file) (view.state s) (view.state s) (keeps_same (view.state s));
    live = refl;
    handle = refl;
    lent = record { store = same; loan = refl };
    told = both_same (seen_in view s file) (seen_in view s file) (FrontIn buffer 0) (front_none buffer) refl;
  }

  module _ (then : (a b c : S) → view.lends a b → view.lends b c → view.lends a c) (s m t : S) (file g h : F) (old new : List ℕ) (n : ℕ) (front : ReadsFront view s file old n m g)
      (same : take n new ≡ take n old) (long : length new ≡ length old) where
    kept : KeepsBut (view.file.handle g) (view.state m) (view.state t) → KeepsBut (view.file.handle file) (view.state s) (view.state t)
    kept keeps = but_then (view.file.handle file) (view.state s) (view.state m) (view.state t) front.keeps (subst (λ k. KeepsBut k (view.state m) (view.state t)) front.handle keeps)

    live_on : (view.state t).live (view.file.handle g) ≡ (view.state m).live (view.file.handle g) → (view.state t).live (view.file.handle file) ≡ (view.state s).live (view.file.handle file)
    live_on live = subst (λ k. (view.state t).live k ≡ (view.state m).live k) front.handle live ∙ front.live

    -- and one more
    pub reads_more : (k : ℕ) → Reads view m g (drop n new) (Ok k) t h → ReadsFront view s file new (n + k) t h
    reads_more k reads = record {
      within = longer new n k (omega (arith, front.within, long)) reads.done.within;
      reads_from = reads.reads_from;
      keeps = kept reads.done.keeps;
      live = live_on reads.done.live;
      handle = reads.handle ∙ front.handle;
      lent = record { store = then s m t front.lent.store reads.lent.store; loan = reads.lent.loan ∙ front.lent.loan };
      told = both_then (seen_in view s file) (seen_in view m g) (seen_in view t h) (FrontIn old n) (ReadsIn (view.state m).whole (drop n new) (Ok k)) (FrontIn new (n + k))
          (λ a b c p q. front_more (view.state m).whole old new n k a b c same p q) front.told reads.done.told;
    }

    reads_refused : (e : FsError) → Reads view m g (drop n new) (Err e) t h → ReadsFront view s file new n t h
    reads_refused e reads = record {
      within = omega (arith, front.within, long);
      reads_from = reads.reads_from;
      keeps = kept reads.done.keeps;
      live = live_on reads.done.live;
      handle = reads.handle ∙ front.handle;
      lent = record { store = then s m t front.lent.store reads.lent.store; loan = reads.lent.loan ∙ front.lent.loan };
      told = both_then (seen_in view s file) (seen_in view m g) (seen_in view t h) (FrontIn old n) (ReadsIn (view.state m).whole (drop n new) (Err e)) (FrontIn new n)
          (λ a b c p q. front_kept (view.state m).whole old new n e a b c same p q) front.told reads.done.told;
    }

    -- the bytes that lack
    lacking : n < length new → n + length (drop n new) ≡ length new
    lacking some = grind (arith, common_steps, some)

    filled_as : FilledTo view (length old) s file n m g → FilledTo view (length new) s file n m g
    filled_as filled = subst (λ k. FilledTo view k s file n m g) (sym long) filled

    pub filled_more : (k : ℕ) → 0 < k → n < length new → FilledTo view (length old) s file n m g → Reads view m g (drop n new) (Ok k) t h → FilledTo view (length new) s file (n + k) t h
    filled_more k more some filled reads = one_more n k m t g h (drop n new) (filled_as filled) (lacking some) more reads

    ended_at : (result : Result ℕ FsError) → n < length new → FilledTo view (length old) s file n m g → Reads view m g (drop n new) result t h → GaveNone view result → Fills view (length new) s file n t h
    ended_at result some filled reads gave = inr (record {
      store = m;
      at = g;
      into = drop n new;
      result = result;
      filled = filled_as filled;
      rest = lacking some;
      some = some;
      last = reads;
      none = gave;
    })

    -- the last of them gave nothing
    pub reads_over : n < length new → FilledTo view (length old) s file n m g → Reads view m g (drop n new) (Ok 0) t h → ReadsWhole view s file new n t h
    reads_over some filled reads = record {
      calls = ended_at (Ok 0) some filled reads refl;
      reads = subst (λ k. ReadsFront view s file new k t h) (add-zero n) (reads_more 0 reads);
      ends = λ can. inr (inr (over_told (view.state m).whole (drop n new) (seen_in view m g) (seen_in view t h) reads.done.told));
    }

    -- or was refused
    pub reads_stop : (e : FsError) → n < length new → FilledTo view (length old) s file n m g → Reads view m g (drop n new) (Err e) t h → ReadsWhole view s file new n t h
    reads_stop e some filled reads = record {
      calls = ended_at (Err e) some filled reads tt;
      reads = reads_refused e reads;
      ends = λ can. inr (inl (rose_from (view.state s).faults (view.state m).faults (view.state t).faults front.keeps.counts
          (reads.done.refused (ap (λ k. can_read ((view.state m).live k)) front.handle ∙ (ap can_read front.live ∙ can))).1));
    }

  -- The buffer is full.
  pub reads_full : (s t : S) (file h : F) (buffer : List ℕ) (n : ℕ) → ReadsFront view s file buffer n t h → FilledTo view (length buffer) s file n t h → length buffer ≤ n → ReadsWhole view s file buffer n t h
  reads_full s t file h buffer n front filled full =
      let all : n ≡ length buffer = omega (arith, front.within, full) in
      record { reads = front; calls = inl (filled, all); ends = λ can. inl all }
