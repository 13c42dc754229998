-- Visits and pages, one after another.
use Rattle.std.proofs.Common.{◌≡◌, ◌<◌, ◌+◌, ◌≤◌, true, ℕ, zero, suc, List, [], ◌∷◌, ◌++◌, length, drop, slice_index_or, refl, sym, ap, subst, ◌∙◌, arith}
use Rattle.std.specs.List.{AllZip, list_all}
use Rattle.std.proofs.lemmas.Bool.{and_from}
use Rattle.std.proofs.lemmas.List.{drop-append-le}
use Rattle.dav_core.specs.Path.{Names, is_plain}
use Rattle.dav_page.specs.declared.row.PageRow.{PageRow}
use Rattle.dav_fetch.specs.declared.found.Found.{Found}
use Rattle.dav_fetch.specs.Fetching.{Visits, WholeVisits}
use Rattle.dav_fetch.specs.Peer.{PeerState}
use Rattle.dav_fetch.proofs.Orders.{drop_step}
use Rattle.dav_fetch.specs.Walk.{IsFound, IsPageOf, Pages, Visit, Way, dirs_on, each_once, files_on, way_of, with_all}

pub visits_then : (s m t : PeerState) (a b : List Visit) → Visits s a m → Visits m b t → Visits s (a ++ b) t
visits_then s m t [] b p q = subst (λ x. Visits x b t) p q
visits_then s m t (v ∷ a) b (n, here, p) q = (n, here, visits_then n m t a b p q)

pub whole_then : (s m t : PeerState) (a b : List Visit) → WholeVisits s a m → WholeVisits m b t → WholeVisits s (a ++ b) t
whole_then s m t [] b p q = subst (λ x. WholeVisits x b t) p q
whole_then s m t (v ∷ a) b (n, here, over, p) q = (n, here, over, whole_then n m t a b p q)

pub whole_visits : (s t : PeerState) (a : List Visit) → WholeVisits s a t → Visits s a t
whole_visits s t [] p = p
whole_visits s t (v ∷ a) (n, here, over, p) = (n, here, whole_visits n t a p)

pub pages_then : (x y z : Way) (a b : List Visit) → Pages x a y → Pages y b z → Pages x (a ++ b) z
pages_then x y z [] b p q = subst (λ w. Pages w b z) p q
pages_then x y z (v ∷ a) b (dir, rest, found, due, page, p) q = (dir, rest, found, due, page, pages_then (with_all dir found (record x { due = rest })) y z a b p q)

-- what a page names is plain
pub plain_found : (dir : Names) (rows : List PageRow) (found : List Found) → AllZip (IsFound dir) rows found → list_all (λ (one : Found). is_plain one.name) found ≡ true
plain_found dir [] [] z = refl
plain_found dir [] (f ∷ fs) z = absurd z
plain_found dir (r ∷ rs) [] z = absurd z
plain_found dir (r ∷ rs) (f ∷ fs) z = and_from _ _ z.0.plain (plain_found dir rs fs z.1)

-- a page's directories stand behind those that are due, and its files behind the others
pub way_all : (at : ℕ) (dirs files : List Names) (dir : Names) (found : List Found) → at + 1 ≤ length dirs
    → with_all dir found (way_of (at + 1) dirs files) ≡ way_of (at + 1) (dirs ++ each_once (dirs_on dir found)) (files ++ files_on dir found)
way_all at dirs files dir found inside =
    ap (λ d. record { due = d; dirs = drop 1 dirs ++ each_once (dirs_on dir found); files = files ++ files_on dir found }) (sym (drop-append-le (at + 1) dirs (each_once (dirs_on dir found)) inside))
    ∙ ap (λ d. record { due = drop (at + 1) (dirs ++ each_once (dirs_on dir found)); dirs = d; files = files ++ files_on dir found })
    (sym (drop-append-le 1 dirs (each_once (dirs_on dir found)) (omega (arith, inside))))

drop_first : (dirs : List Names) (at : ℕ) → at < length dirs → drop at dirs ≡ slice_index_or dirs at [] ∷ drop (at + 1) dirs
drop_first dirs at inside = drop_step dirs at [] inside

pub due_first : (at : ℕ) (dirs files : List Names) → at < length dirs → (way_of at dirs files).due ≡ slice_index_or dirs at [] ∷ drop (at + 1) dirs
due_first at dirs files inside = drop_first dirs at inside

-- the page that is due is read
pub go_step : (at : ℕ) (dirs files : List Names) (visit : Visit) (found : List Found) (new_dirs new_files : List Names) → at < length dirs → IsPageOf (slice_index_or dirs at []) visit found
    → new_dirs ≡ dirs ++ each_once (dirs_on (slice_index_or dirs at []) found) → new_files ≡ files ++ files_on (slice_index_or dirs at []) found
    → Pages (way_of at dirs files) (visit ∷ []) (way_of (at + 1) new_dirs new_files)
go_step at dirs files visit found new_dirs new_files inside page dirs_are files_are = (
  slice_index_or dirs at [],
  drop (at + 1) dirs,
  found,
  drop_first dirs at inside,
  page,
  ap (λ d. way_of (at + 1) d new_files) dirs_are ∙ ap (way_of (at + 1) (dirs ++ each_once (dirs_on (slice_index_or dirs at []) found))) files_are
      ∙ sym (way_all at dirs files (slice_index_or dirs at []) found (omega (arith, inside))),
)

-- where an element stands, no default matters
pub any_default : (xs : List Names) (k : ℕ) (d e : Names) → k < length xs → slice_index_or xs k d ≡ slice_index_or xs k e
any_default [] k d e h = absurd (omega (arith, h))
any_default (x ∷ xs) zero d e h = refl
any_default (x ∷ xs) (suc k) d e h = any_default xs k d e (omega (arith, h))
