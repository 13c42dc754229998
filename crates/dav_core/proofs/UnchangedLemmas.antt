-- What is unchanged after two calls, and tables that were changed at a key.
use Rattle.std.specs.Prelude.{◌≡◌, ◌≢◌, ◌≤◌, ◌+◌, ◌==◌, ℕ, List, Bool, true, false, IsTrue, Option, None, Some, Result, Ok, Err}
use Rattle.std.proofs.Common.{refl, sym, ap, ◌∙◌, arith}
use Rattle.std.proofs.lemmas.Bool.Decides.{nat_tests}
pub use Rattle.std.proofs.lemmas.Bool.{eqb-true as equal_keys, eqb-false as other_keys}
use Rattle.dav_io.specs.Told.{Both}
use Rattle.dav_io.proofs.ToldLemmas.{both_then, both_map, both_same}
use Rattle.dav_core.specs.declared.handle.Meta.{Meta}
use Rattle.dav_core.specs.declared.handle.Handle.{Handle}
use Rattle.dav_core.specs.declared.handle.OpenOptions.{OpenOptions}
use Rattle.dav_core.specs.declared.handle.DiskError.{DiskError}
use Rattle.dav_core.specs.Path.{Names}
use Rattle.dav_core.specs.World.{World, OpenFile, put}
use Rattle.dav_core.specs.Disk.{Live, DiskState, Metas, FileMetas, Opens, OpenedIn, kind_opened, Seeks, SoughtIn, Reads, ReadIn, placed, Closes, ClosedIn}
use Rattle.dav_core.specs.Unchanged.{SameBesidesOpens, SameOpen, SameListing, KeepsBut, Keeps}

pub same_besides : (w : World) → SameBesidesOpens w w
same_besides w = record { tree = refl; files = λ number held. (held, refl); greatest = refl; latest = refl; script = refl }

pub same_besides_then : (a b c : World) → SameBesidesOpens a b → SameBesidesOpens b c → SameBesidesOpens a c
same_besides_then a b c p q = record {
  tree = q.tree ∙ p.tree;
  files = λ number held.
      (let (mid, later) = q.files number held in
      let (first, before) = p.files number mid in
      (first, later ∙ before));
  greatest = q.greatest ∙ p.greatest;
  latest = q.latest ∙ p.latest;
  script = q.script ∙ p.script;
}

pub same_open_then : (h : ℕ) (a b c : World) → SameOpen h a b → SameOpen h b c → SameOpen h a c
same_open_then h a b c p q = q ∙ p

pub same_listing_then : (n : ℕ) (a b c : World) → SameListing n a b → SameListing n b c → SameListing n a c
same_listing_then n a b c p q = q ∙ p

pub put_same : {A : Type 0} (k : ℕ) (a : A) (f : ℕ → A) → put k a f k ≡ a
put_same k a f = grind (arith, nat_tests)

pub put_other : {A : Type 0} (k n : ℕ) (a : A) (f : ℕ → A) → n ≢ k → put k a f n ≡ f n
put_other k n a f ne = grind (arith, nat_tests)

-- two handles differ where one is live and the other isn't
pub differ : (f : ℕ → Option Live) (h n : ℕ) (l : Live) → f h ≡ None → f n ≡ Some l → n ≢ h
differ f h n l none some e = let x : f n ≡ f h = ap f e in cc

pub keeps_same : (s : DiskState) → Keeps s s
keeps_same s = record {
  counts = omega arith;
  asked = omega arith;
  whole = λ w. w;
  listers = refl;
  listings = λ n k e. both_same s.told s.told (SameListing n) (λ w. refl) refl;
  world = both_same s.told s.told SameBesidesOpens same_besides refl;
  live = λ h. refl;
  opens = λ h l e. both_same s.told s.told (SameOpen h) (λ w. refl) refl;
}

pub keeps_then : (s m t : DiskState) → Keeps s m → Keeps m t → Keeps s t
keeps_then s m t p q = record {
  counts = omega arith;
  asked = omega arith;
  whole = λ w. q.whole (p.whole w);
  listers = q.listers ∙ p.listers;
  listings = λ n k e. both_then _ _ _ (SameListing n) (SameListing n) (SameListing n) (same_listing_then n) (p.listings n k e) (q.listings n k (ap (λ f. f n) p.listers ∙ e));
  world = both_then _ _ _ _ _ _ same_besides_then p.world q.world;
  live = λ h. q.live h ∙ p.live h;
  opens = λ h l e. both_then _ _ _ (SameOpen h) (SameOpen h) (SameOpen h) (same_open_then h) (p.opens h l e) (q.opens h l (p.live h ∙ e));
}

pub keeps_but : (own : ℕ) (s t : DiskState) → Keeps s t → KeepsBut own s t
keeps_but own s t p = record { counts = p.counts; asked = p.asked; whole = p.whole; listers = p.listers; listings = p.listings; world = p.world; live = λ h ne. p.live h; opens = λ h l ne e. p.opens h l e }

pub but_then : (own : ℕ) (s m t : DiskState) → KeepsBut own s m → KeepsBut own m t → KeepsBut own s t
but_then own s m t p q = record {
  counts = omega arith;
  asked = omega arith;
  whole = λ w. q.whole (p.whole w);
  listers = q.listers ∙ p.listers;
  listings = λ n k e. both_then _ _ _ (SameListing n) (SameListing n) (SameListing n) (same_listing_then n) (p.listings n k e) (q.listings n k (ap (λ f. f n) p.listers ∙ e));
  world = both_then _ _ _ _ _ _ same_besides_then p.world q.world;
  live = λ h ne. q.live h ne ∙ p.live h ne;
  opens = λ h l ne e. both_then _ _ _ (SameOpen h) (SameOpen h) (SameOpen h) (same_open_then h) (p.opens h l ne e) (q.opens h l ne (p.live h ne ∙ e));
}

live_none : (b : Bool) (h own : ℕ) (s t : ℕ → Option Live) → (b ≡ true → h ≡ own) → s own ≡ None → t own ≡ None → (b ≡ false → t h ≡ s h) → (h == own) ≡ b → t h ≡ s h
live_none true h own s t same before now other e = ap t (same refl) ∙ now ∙ sym (ap s (same refl) ∙ before)
live_none false h own s t same before now other e = other refl

-- a file that was opened since is not live any more, and nothing changed
pub closed_again : (own : ℕ) (s t : DiskState) → KeepsBut own s t → s.live own ≡ None → t.live own ≡ None → Keeps s t
closed_again own s t keeps before now = record {
  counts = keeps.counts;
  asked = keeps.asked;
  whole = keeps.whole;
  listers = keeps.listers;
  listings = keeps.listings;
  world = keeps.world;
  live = λ h. live_none (h == own) h own s.live t.live (equal_keys h own) before now (λ f. keeps.live h (other_keys h own f)) refl;
  opens = λ h l e. keeps.opens h l (differ s.live own h l before e) e;
}
