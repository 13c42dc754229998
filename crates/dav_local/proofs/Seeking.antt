-- A name that is sought by its folding, in a listing.
use Rattle.std.proofs.Common.{◌≡◌, ◌||◌, inl, inr, ℕ, true, false, [], ◌∷◌, Option, None, Some, IsSome, Ok, refl, sym, ap, ◌∙◌, subst}
use Rattle.std.specs.List.{list_any}
use Rattle.std.specs.Str.{bytes_eq}
use Rattle.std.proofs.lemmas.Slice.Eq.{slice_eq-Decides}
use Rattle.std.specs.Cmp.{unsigned_Decides}
use Rattle.dav_io.proofs.ToldLemmas.{told_after}
use Rattle.dav_core.specs.Disk.{DiskState}
use Rattle.dav_core.specs.Listing.{ListsOn, NextIn}
use Rattle.dav_core.specs.Path.{Names}
use Rattle.dav_core.specs.World.{World}
use Rattle.dav_core.proofs.UnchangedLemmas.{put_same}
use Rattle.dav_store.specs.Listings.{GoesOn, KeepsButLister}
use Rattle.dav_store.proofs.Walking.{walk_then}
use Rattle.dav_model.specs.Folds.{Name, fold_name}
use Rattle.dav_local.specs.Walking.{Searches, Sought}

pub texts_same : (a b : Name) → bytes_eq a b ≡ true → a ≡ b
texts_same a b e = (slice_eq-Decides unsigned_Decides a b (bytes_eq a b) refl).0 e

-- the bound on the names to come
abbrev pub bound : Option ℕ → ℕ
bound None = 0
bound (Some k) = k

-- The names to come: what is found among them is found among all.
pub record Rest (names : Names) (l : ℕ) (folded : Name) (t : DiskState) : Type 0 where
  pub now : World
  pub told : t.told ≡ Some now
  pub rest : Names
  pub listing : now.listings l ≡ Some rest
  pub all : (found : Option Name) → Sought rest folded found → Sought names folded found

-- What a search keeps.
pub record Seeks (s : DiskState) (l : ℕ) (folded : Name) (t : DiskState) : Type 0 where
  pub keeps : KeepsButLister (Some l) s t
  pub live : IsSome (t.listers l)
  pub told : (w : World) (names : Names) → s.told ≡ Some w → w.listings l ≡ Some names → Rest names l folded t

none_more : (folded x : Name) (rest : Names) → bytes_eq (fold_name x) folded ≡ false → (found : Option Name) → Sought rest folded found → Sought (x ∷ rest) folded found
none_more folded x rest other None none = ap (λ b. b || list_any (λ y. bytes_eq (fold_name y) folded) rest) other ∙ none
none_more folded x rest other (Some name) among = inr among

-- A name of another folding was given.
pub seeks_on : (s m t : DiskState) (l : ℕ) (folded name : Name) → Seeks s l folded m → ListsOn m l (Ok (Some name)) t → GoesOn m (Some l) t
    → bytes_eq (fold_name name) folded ≡ false → Seeks s l folded t
seeks_on s m t l folded name seeks on goes other = record {
  keeps = walk_then (Some l) s m t seeks.keeps goes.keeps;
  live = goes.live;
  told = λ w names told listing. more names (seeks.told w names told listing);
}
  where
    more : (names : Names) → Rest names l folded m → Rest names l folded t
    more names r =
        let (x, at, next) = told_after m.told t.told (NextIn l (Ok (Some name))) r.now on.told r.told in
        let first : r.rest ≡ name ∷ next.0 = (let h : Some r.rest ≡ Some (name ∷ next.0) = sym r.listing ∙ next.1 in cc) in
        record {
          now = x;
          told = at;
          rest = next.0;
          listing = ap (λ u. u.listings l) next.2 ∙ put_same l (Some next.0) r.now.listings;
          all = λ found sought. r.all found (subst (λ z. Sought z folded found) (sym first) (none_more folded name next.0 other found sought));
        }

pub search_over : (s m t : DiskState) (l : ℕ) (folded : Name) → Seeks s l folded m → ListsOn m l (Ok None) t → GoesOn m (Some l) t → Searches s l folded (Ok None) t
search_over s m t l folded seeks on goes = record {
  keeps = walk_then (Some l) s m t seeks.keeps goes.keeps;
  live = goes.live;
  refused = tt;
  plain = tt;
  alike = tt;
  told = λ w names told listing. over names (seeks.told w names told listing);
}
  where
    over : (names : Names) → Rest names l folded m → Sought names folded None
    over names r =
        let (x, at, next) = told_after m.told t.told (NextIn l (Ok None)) r.now on.told r.told in
        let empty : r.rest ≡ [] = (let h : Some r.rest ≡ Some [] = sym r.listing ∙ next.0 in cc) in
        r.all None (subst (λ z. Sought z folded None) (sym empty) refl)

pub search_found : (s m t : DiskState) (l : ℕ) (folded name : Name) → Seeks s l folded m → ListsOn m l (Ok (Some name)) t → GoesOn m (Some l) t → fold_name name ≡ folded
    → Searches s l folded (Ok (Some name)) t
search_found s m t l folded name seeks on goes alike = record {
  keeps = walk_then (Some l) s m t seeks.keeps goes.keeps;
  live = goes.live;
  refused = tt;
  plain = on.plain;
  alike = alike;
  told = λ w names told listing. found names (seeks.told w names told listing);
}
  where
    found : (names : Names) → Rest names l folded m → Sought names folded (Some name)
    found names r =
        let (x, at, next) = told_after m.told t.told (NextIn l (Ok (Some name))) r.now on.told r.told in
        let first : r.rest ≡ name ∷ next.0 = (let h : Some r.rest ≡ Some (name ∷ next.0) = sym r.listing ∙ next.1 in cc) in
        r.all (Some name) (subst (λ z. Sought z folded (Some name)) (sym first) (inl refl))
