-- What calls leave of a store, one after the other.
use Rattle.std.proofs.Common.{◌≡◌, ℕ, ap, refl, sym, subst, ◌∙◌, arith}
use Rattle.dav_io.proofs.ToldLemmas.{both_same, both_then}
use Rattle.dav_core.specs.Disk.{DiskState, Live}
use Rattle.dav_core.specs.Unchanged.{Keeps, SameListing, SameOpen}
use Rattle.dav_core.proofs.UnchangedLemmas.{keeps_same, keeps_then, same_listing_then, same_open_then}
use Rattle.dav_store.specs.Frames.{KeepsOpen}
use Rattle.dav_store.specs.Listings.{EndsList, GoesOn, HasLister, IsListed}
use Rattle.dav_store.specs.View.{Listings, Stays, StaysBy, StaysListing, StaysOpen, View}
use Rattle.dav_store.proofs.Reading.{keeps_lister, lister_kept}
use Rattle.dav_store.proofs.Walking.{walk_leaves, walk_on, walk_same}

-- A call that changes nothing leaves open what was.
pub open_kept : (s t : DiskState) → Keeps s t → KeepsOpen s t
open_kept s t k = record { counts = k.counts; asked = k.asked; whole = k.whole; listers = k.listers; listings = k.listings; live = k.live; opens = k.opens }

-- no call
pub open_same : (s : DiskState) → KeepsOpen s s
open_same s = record {
  counts = omega arith;
  asked = omega arith;
  whole = λ w. w;
  listers = refl;
  listings = λ n k e. both_same s.told s.told (SameListing n) (λ w. refl) refl;
  live = λ h. refl;
  opens = λ h l e. both_same s.told s.told (SameOpen h) (λ w. refl) refl;
}

-- two calls
pub open_then : (s m t : DiskState) → KeepsOpen s m → KeepsOpen m t → KeepsOpen s t
open_then s m t p q = record {
  counts = omega (arith, p.counts, q.counts);
  asked = omega (arith, p.asked, q.asked);
  whole = λ w. q.whole (p.whole w);
  listers = q.listers ∙ p.listers;
  listings = λ n k e. both_then _ _ _ (SameListing n) (SameListing n) (SameListing n) (same_listing_then n) (p.listings n k e) (q.listings n k (ap (λ f. f n) p.listers ∙ e));
  live = λ h. q.live h ∙ p.live h;
  opens = λ h l e. both_then _ _ _ (SameOpen h) (SameOpen h) (SameOpen h) (same_open_then h) (p.opens h l e) (q.opens h l (p.live h ∙ e));
}

-- a call that changes nothing, and another
pub open_after : (s m t : DiskState) → Keeps s m → KeepsOpen m t → KeepsOpen s t
open_after s m t k q = open_then s m t (open_kept s m k) q

module _ {S C F : Type 0} (view : View S C F) where
  -- no call, as one that only reads, and as one that writes
  pub reads_same : (s : S) → Stays view s s
  reads_same s = record { keeps = keeps_same (view.state s); loan = refl }

  pub stays_same : (s : S) → StaysOpen view s s
  stays_same s = record { keeps = open_same (view.state s); loan = refl }

  -- a call that only reads, as one that writes
  pub stays_kept : (s t : S) → Stays view s t → StaysOpen view s t
  stays_kept s t p = record { keeps = open_kept _ _ p.keeps; loan = p.loan }

  -- two calls that only read
  pub reads_then : (s m t : S) → Stays view s m → Stays view m t → Stays view s t
  reads_then s m t p q = record { keeps = keeps_then _ _ _ p.keeps q.keeps; loan = q.loan ∙ p.loan }

  -- a call that only reads, and one that writes
  pub stays_after : (s m t : S) → Stays view s m → StaysOpen view m t → StaysOpen view s t
  stays_after s m t p q = record { keeps = open_after _ _ _ p.keeps q.keeps; loan = q.loan ∙ p.loan }

  -- two calls that write
  pub stays_then : (s m t : S) → StaysOpen view s m → StaysOpen view m t → StaysOpen view s t
  stays_then s m t p q = record { keeps = open_then _ _ _ p.keeps q.keeps; loan = q.loan ∙ p.loan }

-- What a listing that is read on leaves of a store, from the one at which it stood to the one at which it stands.
module _ {S C F L E : Type 0} (view : View S C F) (lists : Listings S C L E) where
  -- no call
  pub listing_same : (s : S) (l : L) → HasLister (view.state s) (lists.lister l) → StaysListing view lists s l s l
  listing_same s l live = record { live = live; lister = refl; keeps = walk_same _ _; loan = refl }

  pub listing_then : (s m t : S) (l j k : L) → StaysListing view lists s l m j → StaysListing view lists m j t k → StaysListing view lists s l t k
  listing_then s m t l j k p q = record {
    live = q.live;
    lister = q.lister ∙ p.lister;
    keeps = walk_on _ _ _ _ _ p.lister p.keeps q.keeps;
    loan = q.loan ∙ p.loan;
  }

  -- an entry after others
  pub listing_on : (s m t : S) (l j k : L) → StaysListing view lists s l m j → lists.lister k ≡ lists.lister j
      → StaysBy view (λ a b. GoesOn a (lists.lister j) b) m t → StaysListing view lists s l t k
  listing_on s m t l j k p same q = listing_then s m t l j k p (record {
    live = subst (HasLister (view.state t)) (sym same) q.keeps.live;
    lister = same;
    keeps = q.keeps.keeps;
    loan = q.loan;
  })

  -- a call beside the listing, which changes nothing
  pub listing_beside : (s m t : S) (l j : L) → StaysListing view lists s l m j → Stays view m t → StaysListing view lists s l t j
  listing_beside s m t l j p q = listing_then s m t l j j p (record {
    live = lister_kept (lists.lister j) (lists.lister j) (view.state m) (view.state t) refl q.keeps.listers p.live;
    lister = refl;
    keeps = keeps_lister (lists.lister j) (view.state m) (view.state t) q.keeps;
    loan = q.loan;
  })

  -- It was begun, read on and ended: all is as it was.
  pub listing_ended : (s m n t : S) (l k : L) → StaysBy view (λ a b. IsListed a (lists.lister l) b) s m → StaysListing view lists m l n k
      → StaysBy view (λ a b. EndsList a (lists.lister k) b) n t → Stays view s t
  listing_ended s m n t l k begun on ended = record {
    keeps = walk_leaves (lists.lister l) _ _ _ _ begun.keeps on.keeps (subst (λ own. EndsList (view.state n) own (view.state t)) on.lister ended.keeps);
    loan = ended.loan ∙ (on.loan ∙ begun.loan);
  }
