-- What a listing leaves that was begun, read on and ended: all is as it was.
use Rattle.std.proofs.Common.{◌≡◌, ◌≢◌, ◌==◌, ℕ, Bool, true, false, Option, None, Some, refl, sym, ap, subst, ◌∙◌, arith}
use Rattle.dav_io.proofs.ToldLemmas.{both_same, both_then}
use Rattle.dav_core.specs.Disk.{DiskState}
use Rattle.dav_core.specs.Unchanged.{Keeps, SameBesidesOpens, SameListing, SameOpen}
use Rattle.dav_core.proofs.UnchangedLemmas.{equal_keys, other_keys, same_besides, same_besides_then, same_listing_then, same_open_then}
use Rattle.dav_store.specs.Listings.{EndsList, HasNone, IsListed, KeepsButLister}

-- nothing was done
pub walk_same : (own : Option ℕ) (s : DiskState) → KeepsButLister own s s
walk_same own s = record {
  counts = omega arith;
  asked = omega arith;
  whole = λ w. w;
  world = both_same s.told s.told SameBesidesOpens same_besides refl;
  live = λ h. refl;
  opens = λ h l is. both_same s.told s.told (SameOpen h) (λ w. refl) refl;
  listers = λ n ne. refl;
  listings = λ n k ne is. both_same s.told s.told (SameListing n) (λ w. refl) refl;
}

-- one call of the listing after others
pub walk_then : (own : Option ℕ) (s m t : DiskState) → KeepsButLister own s m → KeepsButLister own m t → KeepsButLister own s t
walk_then own s m t p q = record {
  counts = omega (arith, p.counts, q.counts);
  asked = omega (arith, p.asked, q.asked);
  whole = λ w. q.whole (p.whole w);
  world = both_then _ _ _ _ _ _ same_besides_then p.world q.world;
  live = λ h. q.live h ∙ p.live h;
  opens = λ h l is. both_then _ _ _ (SameOpen h) (SameOpen h) (SameOpen h) (same_open_then h) (p.opens h l is) (q.opens h l (p.live h ∙ is));
  listers = λ n ne. q.listers n ne ∙ p.listers n ne;
  listings = λ n k ne is. both_then _ _ _ (SameListing n) (SameListing n) (SameListing n) (same_listing_then n) (p.listings n k ne is)
      (q.listings n k ne (p.listers n ne ∙ is));
}

-- the same of a listing that holds the lister of another
pub walk_on : (own before : Option ℕ) (s m t : DiskState) → before ≡ own → KeepsButLister own s m → KeepsButLister before m t → KeepsButLister own s t
walk_on own before s m t same first next = walk_then own s m t first (subst (λ o. KeepsButLister o m t) same next)

none_apart : (l : ℕ) → None ≢ Some l
none_apart l e = cc

some_apart : (o l : ℕ) → (l == o) ≡ false → Some o ≢ Some l
some_apart o l ne e = other_keys l o ne (let same : o ≡ l = cc in sym same)

-- A lister that wasn't live and isn't is as it was, and the others stay.
lister_back : (own : Option ℕ) (s t : DiskState) (l : ℕ) → HasNone s own → HasNone t own → ((n : ℕ) → own ≢ Some n → t.listers n ≡ s.listers n)
    → t.listers l ≡ s.listers l
lister_back None s t l fresh ended others = others l (none_apart l)
lister_back (Some o) s t l fresh ended others = by (l == o) refl
  where
    by : (b : Bool) → (l == o) ≡ b → t.listers l ≡ s.listers l
    by true e = let same = equal_keys l o e in ap t.listers same ∙ (ended ∙ (sym fresh ∙ ap s.listers (sym same)))
    by false e = others l (some_apart o l e)

-- A lister that was live before isn't the listing's.
not_own : (own : Option ℕ) (s : DiskState) (n k : ℕ) → HasNone s own → s.listers n ≡ Some k → own ≢ Some n
not_own None s n k fresh is e = none_apart n e
not_own (Some o) s n k fresh is e =
    let same : o ≡ n = cc in
    let never : ◌≡◌ {A = Option ℕ} None (Some k) = sym fresh ∙ (ap s.listers same ∙ is) in cc

pub walk_leaves : (own : Option ℕ) (s m n t : DiskState) → IsListed s own m → KeepsButLister own m n → EndsList n own t → Keeps s t
walk_leaves own s m n t begun on ended =
    let all = walk_then own s n t (walk_then own s m n begun.keeps on) ended.keeps in
    record {
      counts = all.counts;
      asked = all.asked;
      whole = all.whole;
      listers = λ i l. lister_back own s t l begun.fresh ended.live all.listers i;
      listings = λ n k is. all.listings n k (not_own own s n k begun.fresh is) is;
      world = all.world;
      live = all.live;
      opens = all.opens;
    }
