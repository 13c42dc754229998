-- Files, one after another.
use Rattle.std.proofs.Common.{◌≡◌, inl, inr, ◌<◌, ◌≤◌, ◌+◌, ◌++◌, ◌∷◌, [], List, Option, Result, Ok, Err, length, refl, sym, ap, subst, ◌∙◌, append_assoc, append-nil}
use Rattle.std.specs.List.{AllByRecursion}
use Rattle.std.specs.Option.{ForSome}
use Rattle.std.proofs.lemmas.List.{length-append}
use Rattle.std.specs.Option.{option_to_list}
use Rattle.dav_core.specs.Path.{Names}
use Rattle.dav_fetch.specs.declared.copied.Kept.{Kept}
use Rattle.dav_fetch.specs.declared.error.MirrorError.{MirrorError}
use Rattle.dav_fetch.specs.declared.fetching.Gathered.{Gathered}
use Rattle.dav_fetch.specs.declared.taking.Taken.{Taken}
use Rattle.dav_fetch.specs.Asking.{file_path}
use Rattle.dav_fetch.specs.Copy.{IsKept, IsOf}
use Rattle.dav_fetch.specs.Fetching.{AtFile, Files, FilesEnd, FilesKept, IsFileVisit, IsWhole, NotAsked, Requests, Stretch, Visits, kept_at, kept_of, taken}
use Rattle.dav_fetch.specs.Gathering.{Gathers}
use Rattle.dav_fetch.specs.Peer.{PeerState}
use Rattle.dav_fetch.specs.Taking.{TakesFile, VisitEnds}
use Rattle.dav_fetch.specs.Judging.{Use}
use Rattle.dav_fetch.specs.Walk.{Visit}
use Rattle.dav_fetch.proofs.Soundness.{found}
use Rattle.dav_fetch.proofs.Ways.{visits_then}

-- one more file is asked
pub files_more : (old : List Kept) (paths : List Names) (visits : List Visit) (got : List Kept) (left : List Names) (path : Names) (more : List Names) (visit : Visit) (worth : Use)
    → Files old paths visits got left → left ≡ path ∷ more → IsFileVisit path (kept_at path old) visit worth → IsWhole worth visit.came
    → Files old paths (visits ++ visit ∷ []) (got ++ option_to_list (taken (kept_at path old) worth visit.came)) more
files_more old [] [] got left path more visit worth (none, same) is file whole = let e : [] ≡ path ∷ more = sym same ∙ is in cc
files_more old (p ∷ paths) [] got left path more visit worth (none, same) is file whole =
    let e : p ∷ paths ≡ path ∷ more = sym same ∙ is in
    let first : p ≡ path = cc in
    let rest : more ≡ paths = cc in
    subst (λ q. Files old (q ∷ paths) (visit ∷ []) (got ++ option_to_list (taken (kept_at path old) worth visit.came)) more) (sym first)
    (worth, [], file, whole, ap (λ g. g ++ option_to_list (taken (kept_at path old) worth visit.came)) none ∙ sym (append-nil (option_to_list (taken (kept_at path old) worth visit.came))), (refl, rest))
files_more old [] (v ∷ vs) got left path more visit worth took is file whole = absurd took
files_more old (p ∷ paths) (v ∷ vs) got left path more visit worth (w, rest, f, wh, parts, took) is file whole = (
  w,
  rest ++ option_to_list (taken (kept_at path old) worth visit.came),
  f,
  wh,
  ap (λ g. g ++ option_to_list (taken (kept_at path old) worth visit.came)) parts ∙ append_assoc (option_to_list (taken (kept_at p old) w v.came)) rest (option_to_list (taken (kept_at path old) worth visit.came)),
  files_more old paths vs rest left path more visit worth took is file whole,
)

-- what is kept of a file fits it
pub kept_fits : (path : Names) (old : List Kept) → AllByRecursion IsKept old → (o : Option Kept) → kept_at path old ≡ o → ForSome o IsKept
kept_fits path old each o e k is = of old each k (found path old k (e ∙ is)).1
  where
    of : (old : List Kept) → AllByRecursion IsKept old → (k : Kept) → IsOf k old → IsKept k
    of [] each k is = absurd is
    of (f ∷ fs) each k (inl here) = subst IsKept (sym here) each.0
    of (f ∷ fs) each k (inr more) = of fs each.1 k more

-- These files came, one after the other, and these are still due.
pub record Gone (old : List Kept) (paths : List Names) (asks : Stretch) (got : List Kept) (left : List Names) : Type 0 where
  pub chain : Visits asks.before asks.visits asks.after
  pub took : Files old paths asks.visits got left

pub none_gone : (old : List Kept) (paths : List Names) (s : PeerState) (got : List Kept) → got ≡ [] → Gone old paths (record { before = s; visits = []; after = s }) got paths
none_gone old paths s got none = record { chain = refl; took = (none, refl) }

-- the visit of the file that is due, where it didn't come whole
due_ends : (path : Names) (more : List Names) (files : FilesKept) (count : Requests) (m t : PeerState) (r : Taken) (e : MirrorError) → TakesFile path (kept_at path files.old) count.made count.most m r t → r.ended ≡ Err e
    → files.new ≡ (files.got ++ option_to_list r.kept) ++ kept_of more files.old → (last : List Visit) × AtFile (path ∷ more) files count e (record { before = m; visits = last; after = t })
due_ends path more files count m t r e (inl (few, v)) ended new = (
  v.visit ∷ [],
  inr (record {
    visit = v.visit;
    worth = v.worth;
    at = v.at;
    one = refl;
    visited = v.visited;
    is = v.is;
    ends = subst (λ x. VisitEnds path v.worth v.visit x v.at t) ended v.ends;
    kept = new ∙ append_assoc files.got (option_to_list r.kept) (kept_of more files.old) ∙ ap (λ o. files.got ++ (option_to_list o ++ kept_of more files.old)) v.kept;
  }),
)
due_ends path more files count m t r e (inr (f, other, stays, why)) ended new = (
  [],
  inl (record {
    none = refl;
    not = subst (λ x. NotAsked (file_path path) count.made count.most x m t) (same (sym other ∙ ended)) why;
    kept = new ∙ append_assoc files.got (option_to_list r.kept) (kept_of more files.old) ∙ ap (λ o. files.got ++ (option_to_list o ++ kept_of more files.old)) stays;
  }),
)
  where
    same : ◌≡◌ {A = Result Unit MirrorError} (Err f) (Err e) → f ≡ e
    same is = cc

-- The file that is due didn't come whole.
pub gathers_err : (old : List Kept) (paths : List Names) (count : Requests) (asks : Stretch) (got : List Kept) (path : Names) (more : List Names) (t : PeerState) (r : Taken) (e : MirrorError) (result : Gathered)
    → Gone old paths asks got (path ∷ more) → count.made + length asks.visits ≤ count.most → TakesFile path (kept_at path old) (count.made + length asks.visits) count.most asks.after r t
    → r.ended ≡ Err e → result.ended ≡ Err e → result.files.items ≡ (got ++ option_to_list r.kept) ++ kept_of more old → Gathers old paths count.made count.most asks.before result t
gathers_err old paths count asks got path more t r e result gone within takes ended out new =
    let files : FilesKept = record { old = old; got = got; new = result.files.items } in
    let now : Requests = record { made = count.made + length asks.visits; most = count.most } in
    let (last, end) = due_ends path more files now asks.after t r e takes ended new in record {
      visits = asks.visits;
      last = last;
      got = got;
      left = path ∷ more;
      took = gone.took;
      mid = asks.after;
      chain = gone.chain;
      within = within;
      ends = subst (λ x. FilesEnd (path ∷ more) files now x (record { before = asks.after; visits = last; after = t })) (sym out) end;
    }

-- A file more came, by one visit more.
pub record Went (old : List Kept) (paths : List Names) (asks : Stretch) (t : PeerState) (got : List Kept) (left : List Names) : Type 0 where
  pub visits : List Visit
  pub gone : Gone old paths (record { before = asks.before; visits = visits; after = t }) got left
  pub count : length visits ≡ length asks.visits + 1

pub goes_on : (old : List Kept) (paths : List Names) (count : Requests) (asks : Stretch) (got : List Kept) (path : Names) (more : List Names) (t : PeerState) (r : Taken) → Gone old paths asks got (path ∷ more)
    → TakesFile path (kept_at path old) count.made count.most asks.after r t → r.ended ≡ Ok tt → Went old paths asks t (got ++ option_to_list r.kept) more × (count.made < count.most)
goes_on old paths count asks got path more t r gone (inl (few, v)) ended =
    let ends : VisitEnds path v.worth v.visit (Ok tt) v.at t = subst (λ e. VisitEnds path v.worth v.visit e v.at t) ended v.ends in (
      record {
        visits = asks.visits ++ v.visit ∷ [];
        gone = record {
          chain = visits_then asks.before asks.after t asks.visits (v.visit ∷ []) gone.chain (v.at, v.visited, ends.1);
          took = subst (λ o. Files old paths (asks.visits ++ v.visit ∷ []) (got ++ option_to_list o) more) (sym v.kept)
              (files_more old paths asks.visits got (path ∷ more) path more v.visit v.worth gone.took refl v.is ends.0);
        };
        count = length-append asks.visits (v.visit ∷ []);
      },
      few,
    )
goes_on old paths count asks got path more t r gone (inr (f, other, stays, why)) ended = absurd (clash (sym ended ∙ other))
  where
    clash : ◌≡◌ {A = Result Unit MirrorError} (Ok tt) (Err f) → ⊥
    clash e = cc
