-- How the slots of a row go on through the calls of uploads and of a reader.
use Rattle.std.proofs.Common.{◌≡◌, ◌≢◌, ℕ, Option, None, Some, IsSome, IfSome, refl, sym, ap, subst, ◌∙◌}
use Rattle.dav_core.specs.declared.handle.OpenOptions.{OpenOptions}
use Rattle.dav_core.specs.Disk.{DiskState}
use Rattle.dav_core.specs.Unchanged.{KeepsBut}
use Rattle.dav_store.specs.Frames.{IsOpened, IsUnopened, KeepsOpen, KeepsOpenBut}
use Rattle.dav_store.specs.Standing.{Seen}
use Rattle.dav_walks.proofs.calls.KeptOpen.{but_kept, but_then, open_closed}
use Rattle.dav_upload.specs.Pieces.{ClosesUpload, IsMade, KeepsUpload}
use Rattle.upload_rows.specs.Slots.{Goes, IsLive, IsNot, Under}

not_none : {A : Type 0} (o : Option A) → IsSome o → o ≡ None → ⊥
not_none None some e = cc
not_none (Some a) some e = cc

-- ---- one file

goes_fresh : (h : ℕ) (s t : DiskState) → KeepsOpenBut h s t → s.live h ≡ None → IsSome (t.live h) → Goes None s (Some h) t
goes_fresh h s t others fresh live =
    let other : (k : ℕ) → IsSome (s.live k) → k ≢ h = λ k live e. not_none (s.live k) live (ap s.live e ∙ fresh) in
    record { live = live; others = λ k live off. others.live k (other k live); apart = λ k live off. other k live }

pub goes_made : (h : ℕ) (s t : DiskState) → IsMade h s t → Goes None s (Some h) t
goes_made h s t made = goes_fresh h s t made.others made.fresh made.live

pub goes_opened : (how : OpenOptions) (h : ℕ) (seen : Option Seen) (s t : DiskState) → IsOpened how s h seen t → Goes None s (Some h) t
goes_opened how h seen s t opened = goes_fresh h s t opened.others opened.fresh opened.live

pub goes_kept : (slot : Option ℕ) (s t : DiskState) → IsLive slot s → KeepsOpen s t → Goes slot s slot t
goes_kept slot s t live keeps = record { live = still slot live; others = λ k is off. keeps.live k; apart = λ k is off. off }
  where
    still : (slot : Option ℕ) → IsLive slot s → IsLive slot t
    still None live = tt
    still (Some h) live = subst IsSome (sym (keeps.live h)) live

pub goes_unopened : (how : OpenOptions) (s t : DiskState) → IsUnopened how s t → Goes None s None t
goes_unopened how s t kept = goes_kept None s t tt kept.others

pub goes_same : (slot : Option ℕ) (s : DiskState) → IsLive slot s → Goes slot s slot s
goes_same slot s live = record { live = live; others = λ k is off. refl; apart = λ k is off. off }

goes_further : (h x : ℕ) (s t : DiskState) → IsSome (s.live h) → x ≡ h → KeepsOpenBut h s t → t.live h ≡ s.live h → Goes (Some h) s (Some x) t
goes_further h x s t live same others kept = record {
  live = subst (λ k. IsSome (t.live k)) (sym same) (subst IsSome (sym kept) live);
  others = λ k is off. others.live k off;
  apart = λ k is off. λ e. off (e ∙ same);
}

pub goes_on : (h x : ℕ) (s t : DiskState) → IsSome (s.live h) → KeepsUpload h x s t → Goes (Some h) s (Some x) t
goes_on h x s t live keeps = goes_further h x s t live keeps.handle keeps.others keeps.live

pub goes_read : (h x : ℕ) (s t : DiskState) → IsSome (s.live h) → x ≡ h → KeepsBut h s t → t.live h ≡ s.live h → Goes (Some h) s (Some x) t
goes_read h x s t live same kept still = goes_further h x s t live same (but_kept h s t kept) still

goes_over : (h : ℕ) (s t : DiskState) → KeepsOpenBut h s t → Goes (Some h) s None t
goes_over h s t others = record { live = tt; others = λ k is off. others.live k off; apart = λ k is off. tt }

pub goes_ended : (h : ℕ) (s t : DiskState) → ClosesUpload h s t → Goes (Some h) s None t
goes_ended h s t closes = goes_over h s t closes.others

pub goes_closed : (h : ℕ) (s t : DiskState) → KeepsBut h s t → Goes (Some h) s None t
goes_closed h s t kept = goes_over h s t (but_kept h s t kept)

-- ---- all that may be open

is_apart : (a b : Option ℕ) → IfSome a (IsNot b) → IfSome b (IsNot a)
is_apart None None off = tt
is_apart None (Some y) off = tt
is_apart (Some x) None off = tt
is_apart (Some x) (Some y) off = λ e. off (sym e)

still_live : (other own new : Option ℕ) (s t : DiskState) → IsLive other s → IfSome other (IsNot own) → Goes own s new t → IsLive other t
still_live None own new s t live off goes = tt
still_live (Some h) own new s t live off goes = subst IsSome (sym (goes.others h live off)) live

still_apart : (other own new : Option ℕ) (s t : DiskState) → IsLive other s → IfSome other (IsNot own) → Goes own s new t → IfSome other (IsNot new)
still_apart None own new s t live off goes = tt
still_apart (Some h) own new s t live off goes = goes.apart h live off

pub first_goes : (a b c new : Option ℕ) (s t : DiskState) → Under a b c s → Goes a s new t → Under new b c t
first_goes a b c new s t under goes =
    let ba : IfSome b (IsNot a) = is_apart a b under.first_second in
    let ca : IfSome c (IsNot a) = is_apart a c under.first_third in
    record {
      first = goes.live;
      second = still_live b a new s t under.second ba goes;
      third = still_live c a new s t under.third ca goes;
      first_second = is_apart b new (still_apart b a new s t under.second ba goes);
      first_third = is_apart c new (still_apart c a new s t under.third ca goes);
      second_third = under.second_third;
    }

swapped : (a b c : Option ℕ) (s : DiskState) → Under a b c s → Under b a c s
swapped a b c s under = record {
  first = under.second;
  second = under.first;
  third = under.third;
  first_second = is_apart a b under.first_second;
  first_third = under.second_third;
  second_third = under.first_third;
}

turned : (a b c : Option ℕ) (s : DiskState) → Under a b c s → Under c b a s
turned a b c s under = record {
  first = under.third;
  second = under.second;
  third = under.first;
  first_second = is_apart b c under.second_third;
  first_third = is_apart a c under.first_third;
  second_third = is_apart a b under.first_second;
}

pub second_goes : (a b c new : Option ℕ) (s t : DiskState) → Under a b c s → Goes b s new t → Under a new c t
second_goes a b c new s t under goes = swapped new a c t (first_goes b a c new s t (swapped a b c s under) goes)

pub third_goes : (a b c new : Option ℕ) (s t : DiskState) → Under a b c s → Goes c s new t → Under a b new t
third_goes a b c new s t under goes = turned new b a t (first_goes c b a new s t (turned a b c s under) goes)

pub under_kept : (a b c : Option ℕ) (s t : DiskState) → Under a b c s → KeepsOpen s t → Under a b c t
under_kept a b c s t under keeps = first_goes a b c a s t under (goes_kept a s t under.first keeps)

pub same_under : (a x b y c z : Option ℕ) (s t : DiskState) → x ≡ a → y ≡ b → z ≡ c → t ≡ s → Under a b c s → Under x y z t
same_under a x b y c z s t e f g same under =
    subst (λ i. Under i y z t) (sym e) (subst (λ j. Under a j z t) (sym f) (subst (λ k. Under a b k t) (sym g) (subst (λ m. Under a b c m) (sym same) under)))

pub none_under : (s : DiskState) → Under None None None s
none_under s = record { first = tt; second = tt; third = tt; first_second = tt; first_third = tt; second_third = tt }

-- a file that was opened, read and closed
pub read_closed : (h : ℕ) (s m n t : DiskState) → s.live h ≡ None → KeepsOpenBut h s m → KeepsBut h m n → KeepsBut h n t → t.live h ≡ None → KeepsOpen s t
read_closed h s m n t fresh opened read closed gone =
    open_closed h s t (but_then h s n t (but_then h s m n opened (but_kept h m n read)) (but_kept h n t closed)) fresh gone
