-- How many calls the steps of a search ask, one after the other.
use Rattle.std.proofs.Common.{◌≡◌, ◌≤◌, ◌+◌, inl, inr, ℕ, ◌∷◌, length, Option, Some, Result, Ok, Err, sym, ap, ◌∙◌, arith}
use Rattle.std.proofs.lemmas.List.Sorted.{length_permutation}
use Rattle.dav_io.proofs.ToldLemmas.{told_after}
use Rattle.dav_core.specs.declared.handle.DiskError.{DiskError}
use Rattle.dav_core.specs.declared.handle.Lister.{Lister}
use Rattle.dav_core.specs.Disk.{DiskState}
use Rattle.dav_core.specs.Listing.{EndsListing, ListedIn, Lists, ListsOn, NextIn, names_in}
use Rattle.dav_core.specs.Path.{Names}
use Rattle.dav_core.specs.World.{World}
use Rattle.dav_core.proofs.UnchangedLemmas.{put_same}
use Rattle.dav_store.specs.Files.{AsksOnce}
use Rattle.dav_model.specs.Calls.{more_by}
use Rattle.dav_model.specs.Folds.{Name}
use Rattle.dav_local.specs.Near.{Calls, CallsAtMost, ReadsFew, SearchesFew, members_at}

-- ---- counts

pub calls_then : (m n : ℕ) (s k t : DiskState) → Calls m s k → Calls n k t → Calls (m + n) s t
calls_then m n s k t first then = omega (arith, first, then)

pub unasked : (n : ℕ) (s t : DiskState) → t ≡ s → CallsAtMost n s t
unasked n s t same = inl (ap (λ (x : DiskState). x.asked) same)

pub few_called : (n : ℕ) (s t : DiskState) → 1 ≤ n → AsksOnce s t → CallsAtMost n s t
few_called n s t le once = inr (1, le, once)

pub few_more : (m n : ℕ) (s t : DiskState) → m ≤ n → CallsAtMost m s t → CallsAtMost n s t
few_more m n s t le (inl same) = inl same
few_more m n s t le (inr (k, within, calls)) = inr (k, omega (arith, le, within), calls)

pub few_then : (m n : ℕ) (s k t : DiskState) → CallsAtMost m s k → CallsAtMost n k t → CallsAtMost (m + n) s t
few_then m n s k t (inl same) (inl still) = inl (still ∙ same)
few_then m n s k t (inl same) (inr (b, within, calls)) = inr (b, omega (arith, within), calls ∙ ap (more_by b) same)
few_then m n s k t (inr (a, within, calls)) (inl still) = inr (a, omega (arith, within), still ∙ calls)
few_then m n s k t (inr (a, here, first)) (inr (b, there, then)) = inr (a + b, omega (arith, here, there), calls_then a b s k t first then)

-- one call behind so many
pub one_then : (n : ℕ) (s k t : DiskState) → AsksOnce s k → CallsAtMost n k t → CallsAtMost (n + 1) s t
one_then n s k t once few = few_more (1 + n) (n + 1) s t (omega arith) (few_then 1 n s k t (few_called 1 s k (omega arith) once) few)

-- ---- the names of a listing

-- These names are still to come, and as many calls were asked as names came.
pub record Passed (names : Names) (l : ℕ) (s t : DiskState) : Type 0 where
  pub now : World
  pub told : t.told ≡ Some now
  pub rest : Names
  pub listing : now.listings l ≡ Some rest
  pub came : ℕ
  pub all : came + length rest ≡ length names
  pub few : CallsAtMost came s t

abbrev pub Passing : DiskState → ℕ → DiskState → Type 0
Passing s l t = (w : World) (names : Names) → s.told ≡ Some w → w.listings l ≡ Some names → Passed names l s t

pub passing_on : (s m t : DiskState) (l : ℕ) (name : Name) → Passing s l m → ListsOn m l (Ok (Some name)) t → Passing s l t
passing_on s m t l name passing on = λ w names told listing. more names (passing w names told listing)
  where
    more : (names : Names) → Passed names l s m → Passed names l s t
    more names r =
        let (x, at, next) = told_after m.told t.told (NextIn l (Ok (Some name))) r.now on.told r.told in
        let first : r.rest ≡ name ∷ next.0 = (let h : Some r.rest ≡ Some (name ∷ next.0) = sym r.listing ∙ next.1 in cc) in
        let long : length r.rest ≡ length next.0 + 1 = ap length first ∙ omega arith in
        record {
          now = x;
          told = at;
          rest = next.0;
          listing = ap (λ u. u.listings l) next.2 ∙ put_same l (Some next.0) r.now.listings;
          came = r.came + 1;
          all = (let all = r.all in omega (arith, all, long));
          few = few_then r.came 1 s m t r.few (few_called 1 m t (omega arith) on.counted.asked);
        }

-- One call more, whatever it answered.
pub passed_over : (s m t : DiskState) (l : ℕ) (r : Result (Option Name) DiskError) → Passing s l m → ListsOn m l r t → ReadsFew s l t
passed_over s m t l r passing on = λ w names told listing. over names (passing w names told listing)
  where
    over : (names : Names) → Passed names l s m → CallsAtMost (length names + 1) s t
    over names r =
        few_more (r.came + 1) (length names + 1) s t (let all = r.all in omega (arith, all)) (few_then r.came 1 s m t r.few (few_called 1 m t (omega arith) on.counted.asked))

-- ---- a directory

pub searched_few : (s m n t : DiskState) (at : Names) (l : Lister) → Lists s at (Ok l) m → ReadsFew m l.0 n → EndsListing n l.0 t → SearchesFew s at t
searched_few s m n t at l lists reads ended = λ w told clear.
    let (v, now, listed) = told_after s.told m.told (ListedIn at (Ok l)) w lists.told told in
    let listing = ap (λ (u : World). u.listings l.0) listed.1 ∙ put_same l.0 (Some listed.0) w.listings in
    let long : length (names_in w.tree at) ≡ length listed.0 = sym (length_permutation (names_in w.tree at) listed.0 (listed.2 clear).1) in
    let read = reads v listed.0 now listing in
    few_more (length listed.0 + 1 + 1) (members_at w at + 2) s t (omega (arith, long))
    (one_then (length listed.0 + 1) s m t lists.counted.asked (few_ended (length listed.0 + 1) m n t read ended.asked))
  where
    few_ended : (k : ℕ) (m n t : DiskState) → CallsAtMost k m n → t.asked ≡ n.asked → CallsAtMost k m t
    few_ended k m n t (inl same) still = inl (still ∙ same)
    few_ended k m n t (inr (c, within, calls)) still = inr (c, within, still ∙ calls)

-- no directory is listed
pub unlisted_few : (s t : DiskState) (at : Names) (e : DiskError) → Lists s at (Err e) t → SearchesFew s at t
unlisted_few s t at e lists = λ w told clear. few_called (members_at w at + 2) s t (omega arith) lists.counted.asked
