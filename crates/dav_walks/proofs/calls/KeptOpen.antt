-- What calls leave open, one after the other.
use Rattle.std.proofs.Common.{◌≡◌, ◌≢◌, ◌==◌, ℕ, Bool, true, false, Option, None, ap, sym, ◌∙◌, refl, arith}
use Rattle.dav_io.proofs.ToldLemmas.{both_same, both_then}
use Rattle.dav_core.specs.Disk.{DiskState, Live}
use Rattle.dav_core.specs.Unchanged.{KeepsBut, SameListing, SameOpen}
use Rattle.dav_core.proofs.UnchangedLemmas.{differ, equal_keys, other_keys, same_listing_then, same_open_then}
use Rattle.dav_store.specs.Frames.{KeepsOpen, KeepsOpenBut}
pub use Rattle.dav_store.proofs.Staying.{open_after, open_kept, open_same, open_then}

-- A file is as it was where no call was made.
pub but_same : (own : ℕ) (s : DiskState) → KeepsOpenBut own s s
but_same own s = record {
  counts = omega arith;
  asked = omega arith;
  whole = λ w. w;
  listers = refl;
  listings = λ n k e. both_same s.told s.told (SameListing n) (λ w. refl) refl;
  live = λ h ne. refl;
  opens = λ h l ne e. both_same s.told s.told (SameOpen h) (λ w. refl) refl;
}

-- two calls on one file
pub but_then : (own : ℕ) (s m t : DiskState) → KeepsOpenBut own s m → KeepsOpenBut own m t → KeepsOpenBut own s t
but_then own s m t p q = record {
  counts = omega (arith, p.counts, q.counts);
  asked = omega (arith, p.asked, q.asked);
  whole = λ w. q.whole (p.whole w);
  listers = q.listers ∙ p.listers;
  listings = λ n k e. both_then _ _ _ (SameListing n) (SameListing n) (SameListing n) (same_listing_then n) (p.listings n k e) (q.listings n k (ap (λ f. f n) p.listers ∙ e));
  live = λ h ne. q.live h ne ∙ p.live h ne;
  opens = λ h l ne e. both_then _ _ _ (SameOpen h) (SameOpen h) (SameOpen h) (same_open_then h) (p.opens h l ne e) (q.opens h l ne (p.live h ne ∙ e));
}

-- a call on a file that changes nothing but its life
pub but_kept : (own : ℕ) (s t : DiskState) → KeepsBut own s t → KeepsOpenBut own s t
but_kept own s t k = record { counts = k.counts; asked = k.asked; whole = k.whole; listers = k.listers; listings = k.listings; live = k.live; opens = k.opens }

live_none : (b : Bool) (h own : ℕ) (s t : ℕ → Option Live) → (h == own) ≡ b → s own ≡ None → t own ≡ None → ((h : ℕ) → h ≢ own → t h ≡ s h) → t h ≡ s h
live_none true h own s t e before now other = let same = equal_keys h own e in ap t same ∙ (now ∙ sym (ap s same ∙ before))
live_none false h own s t e before now other = other h (other_keys h own e)

-- A file that was opened since was closed again.
pub open_closed : (own : ℕ) (s t : DiskState) → KeepsOpenBut own s t → s.live own ≡ None → t.live own ≡ None → KeepsOpen s t
open_closed own s t k before now = record {
  counts = k.counts;
  asked = k.asked;
  whole = k.whole;
  listers = k.listers;
  listings = k.listings;
  live = λ h. live_none (h == own) h own s.live t.live refl before now k.live;
  opens = λ h l e. k.opens h l (differ s.live own h l before e) e;
}
