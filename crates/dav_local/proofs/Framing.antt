-- What is left as it was where a path was found before a call of the disk.
use Rattle.std.proofs.Common.{◌≡◌, ℕ, Option, None, Some, Result, Ok, Err, ap, subst, ◌∙◌, arith}
use Rattle.dav_io.proofs.ToldLemmas.{both_then}
use Rattle.dav_core.specs.declared.error.FsError.{FsError}
use Rattle.dav_core.specs.declared.handle.OpenOptions.{OpenOptions}
use Rattle.dav_core.specs.Disk.{DiskState}
use Rattle.dav_core.specs.Unchanged.{Keeps, SameListing, SameOpen}
use Rattle.dav_core.proofs.UnchangedLemmas.{but_then, keeps_but, keeps_then, same_listing_then, same_open_then}
use Rattle.dav_store.specs.Frames.{KeepsOpenBut, OpensOne}
use Rattle.dav_store.specs.Listings.{HasNone, ListsOne}
use Rattle.dav_store.specs.FileView.{FileView}
use Rattle.dav_store.proofs.Reading.{keeps_lister}
use Rattle.dav_store.proofs.Walking.{walk_then}
use Rattle.dav_store.proofs.Staying.{open_after}

but_after : (own : ℕ) (s m t : DiskState) → Keeps s m → KeepsOpenBut own m t → KeepsOpenBut own s t
but_after own s m t p q = record {
  counts = omega (arith, p.counts, q.counts);
  asked = omega (arith, p.asked, q.asked);
  whole = λ w. q.whole (p.whole w);
  listers = q.listers ∙ p.listers;
  listings = λ n k e. both_then _ _ _ (SameListing n) (SameListing n) (SameListing n) (same_listing_then n) (p.listings n k e) (q.listings n k (ap (λ (f : ℕ → Option ℕ). f n) p.listers ∙ e));
  live = λ h ne. q.live h ne ∙ p.live h;
  opens = λ h l ne e. both_then _ _ _ (SameOpen h) (SameOpen h) (SameOpen h) (same_open_then h) (p.opens h l e) (q.opens h l ne (p.live h ∙ e));
}

-- a file that was opened after a path was found
pub opens_after : {F : Type 0} (view : FileView F) (how : OpenOptions) (s m t : DiskState) (r : Result F FsError) → Keeps s m → OpensOne view how m r t
    → OpensOne view how s r t
opens_after view how s m t (Ok file) keeps opened = record {
  others = but_after (view.handle file) s m t keeps opened.others;
  kept = λ reads. but_then (view.handle file) s m t (keeps_but (view.handle file) s m keeps) (opened.kept reads);
  fresh = (let same : m.live (view.handle file) ≡ s.live (view.handle file) = keeps.live (view.handle file) in sym_then same opened.fresh);
  live = opened.live;
  options = opened.options;
  place = opened.place;
}
  where
    sym_then : m.live (view.handle file) ≡ s.live (view.handle file) → m.live (view.handle file) ≡ None → s.live (view.handle file) ≡ None
    sym_then same none = rw same at none
opens_after view how s m t (Err e) keeps opened = record { others = open_after s m t keeps opened.others; kept = λ reads. keeps_then s m t keeps (opened.kept reads) }

-- a listing that was begun after a path was found
pub lists_after : {L : Type 0} (lister : L → Option ℕ) (s m t : DiskState) (r : Result L FsError) → Keeps s m → ListsOne lister m r t → ListsOne lister s r t
lists_after lister s m t (Err e) keeps listed = keeps_then s m t keeps listed
lists_after lister s m t (Ok d) keeps listed = record {
  keeps = walk_then (lister d) s m t (keeps_lister (lister d) s m keeps) listed.keeps;
  fresh = fresh (lister d) listed.fresh;
  live = listed.live;
}
  where
    fresh : (own : Option ℕ) → HasNone m own → HasNone s own
    fresh None none = tt
    fresh (Some n) none = subst (λ (f : ℕ → Option ℕ). f n ≡ None) keeps.listers none
