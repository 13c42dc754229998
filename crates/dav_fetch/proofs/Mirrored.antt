-- What a whole fetch of a still tree leaves is exactly what is shown of it.
use Rattle.std.proofs.Common.{◌≡◌, inl, inr, ◌<◌, ◌≤◌, ◌++◌, ℕ, List, [], ◌∷◌, length, true, false, Option, None, Some, IfSome, Result, Ok, Err, refl, sym, ap, subst, ◌∙◌, arith}
use Rattle.std.specs.Option.{option_to_list}
use Rattle.dav_core.specs.declared.tree.Kind.{Kind}
use Rattle.dav_core.specs.declared.tree.Kind.TheVariants.{Dir, File, Link}
use Rattle.dav_core.specs.declared.tree.Row.{Row}
use Rattle.dav_core.specs.Path.{Names}
use Rattle.dav_core.specs.Tree.{is_dir, is_file, is_tree, look}
use Rattle.dav_core.specs.World.{World}
use Rattle.dav_core.proofs.Rows.{tree_parts}
use Rattle.dav_fetch.specs.declared.copied.Copied.{Copied}
use Rattle.dav_fetch.specs.declared.copied.Kept.{Kept}
use Rattle.dav_fetch.specs.declared.error.MirrorError.{MirrorError}
use Rattle.dav_fetch.specs.declared.error.MirrorError.TheVariants.{NoMemory}
use Rattle.dav_fetch.specs.Copy.{IsCopy, IsOf}
use Rattle.dav_fetch.specs.Fetching.{Fetched, Files, Goes, Requests, Stretch, Takes, Visits, kept_at, visits_of}
use Rattle.dav_fetch.specs.Mirroring.{IsGood, IsMirror, IsOverOne, IsShownDir, IsWholeFile, TellsOne, is_shown, whole_file}
use Rattle.dav_fetch.specs.Peer.{PeerState}
use Rattle.dav_fetch.specs.Walk.{Visit, Way}
use Rattle.dav_fetch.proofs.Copies.{fetched_copy, kept_well}
use Rattle.dav_fetch.proofs.FileWhole.{IsAllOf, visit_whole}
use Rattle.dav_fetch.proofs.PagesWalked.{pages_walked}
use Rattle.dav_fetch.proofs.Quiet.{quiet_first, visits_count}
use Rattle.dav_fetch.proofs.Soundness.{found}
use Rattle.dav_fetch.proofs.TreeRows.{root_stands, same_row}
use Rattle.dav_fetch.proofs.Walks.{Walked, dir_found, file_found}
use Rattle.dav_fetch.proofs.Ways.{whole_visits}

pub told_parts : (w : World) (a b : List Visit) → TellsOne w (a ++ b) → TellsOne w a × TellsOne w b
told_parts w [] b told = (tt, told)
told_parts w (v ∷ a) b told = let both = told_parts w a b told.1 in ((told.0, both.0), both.1)

-- What is kept of a file at entry is good for the world.
pub old_good : (w : World) (s t : PeerState) (old : Copied) (visits : List Visit) (path : Names) → IsOverOne w s old visits t → (o : Option Kept) → kept_at path old.files ≡ o → IfSome o (IsGood w path)
old_good w s t old visits path over None e = tt
old_good w s t old visits path over (Some k) e =
    let of = (found path old.files k e).1 in
    let well = kept_well path old.files over.copy.each (Some k) e in
    record { path = well.path; kept = well.kept; faithful = over.faithful k of; small = over.small k of }

-- ---- files

-- The files at these paths are there, each whole, and no others.
record AreAll (w : World) (paths : List Names) (got : List Kept) : Type 0 where
  pub each : (k : Kept) → IsOf k got → IsOf k.path paths × IsAllOf w k.path k
  pub all : (path : Names) → IsOf path paths → (k : Kept) × IsOf k got × (k.path ≡ path)

all_none : (w : World) → AreAll w [] []
all_none w = record { each = λ k none. absurd none; all = λ path none. absurd none }

all_more : (w : World) (path : Names) (paths : List Names) (k : Kept) (got : List Kept) → IsAllOf w path k → AreAll w paths got → AreAll w (path ∷ paths) (k ∷ got)
all_more w path paths k got is rest = record { each = each; all = all }
  where
    named : k.path ≡ path
    named = ap (λ (x : Kept). x.path) is.is

    each : (j : Kept) → IsOf j (k ∷ got) → IsOf j.path (path ∷ paths) × IsAllOf w j.path j
    each j (inl same) = subst (λ (x : Kept). IsOf x.path (path ∷ paths) × IsAllOf w x.path x) (sym same) (inl named, subst (λ p. IsAllOf w p k) (sym named) is)
    each j (inr more) = let (of, whole) = rest.each j more in (inr of, whole)

    all : (p : Names) → IsOf p (path ∷ paths) → (j : Kept) × IsOf j (k ∷ got) × (j.path ≡ p)
    all p (inl same) = (k, inl refl, named ∙ sym same)
    all p (inr more) = let (j, of, is) = rest.all p more in (j, inr of, is)

files_all : (w : World) (s t end : PeerState) (old : Copied) (all : List Visit) (paths : List Names) (visits : List Visit) (got : List Kept) (left : List Names) → IsOverOne w s old all end
    → ((path : Names) → IsOf path paths → is_shown path ≡ true) → (a : PeerState) → TellsOne w visits → Visits a visits t → Files old.files paths visits got left → left ≡ [] → AreAll w paths got
files_all w s t end old all paths [] got left over shown a told chain (none, stays) is_none = subst (AreAll w paths) (sym none) (subst (λ p. AreAll w p []) (sym (sym stays ∙ is_none)) (all_none w))
files_all w s t end old all [] (v ∷ vs) got left over shown a told chain took is_none = absurd took
files_all w s t end old all (path ∷ paths) (v ∷ vs) got left over shown a told (m, visited, chain) (worth, rest, file, whole, parts, took) is_none =
    let (k, here, is) =
    visit_whole w path (kept_at path old.files) a m v worth (old_good w s end old all path over (kept_at path old.files) refl) (over.short path (shown path (inl refl))) told.0 visited file whole in
    subst (AreAll w (path ∷ paths)) (sym (parts ∙ ap (λ o. option_to_list o ++ rest) here))
    (all_more w path paths k rest is (files_all w s t end old all paths vs rest left over (λ p o. shown p (inr o)) m told.1 chain took is_none))

-- ---- kinds

file_no_dir : (k : Kind) → is_file k ≡ true → is_dir k ≡ false
file_no_dir Dir e = cc
file_no_dir File e = refl
file_no_dir Link e = cc

-- A file stands below the root.
file_named : (w : World) (path : Names) (row : Row) → is_tree w.tree ≡ true → look w.tree path ≡ Ok row → is_dir row.kind ≡ false → 0 < length path
file_named w [] row tree there kind =
    let (d, root, is) = root_stands w.tree (tree_parts w.tree tree) in
    absurd (clash row.kind (ap (λ (r : Row). r.kind) (same_row row d (look w.tree []) there root) ∙ is) kind)
  where
    clash : (k : Kind) → k ≡ Dir → is_dir k ≡ false → ⊥
    clash Dir e f = cc
    clash File e f = cc
    clash Link e f = cc
file_named w (name ∷ path) row tree there kind = omega arith

-- ---- the whole of it

module _ (w : World) (s : PeerState) (old new : Copied) (all : List Visit) (asks : Stretch) (over : IsOverOne w s old all asks.after) (read : List Names) (way : Way) (walk : Walked w read way) (none : way.due ≡ [])
    (count : Requests) (takes : Takes way count old asks (Ok tt) new) (told : TellsOne w asks.visits) where
  files_are : AreAll w takes.paths new.files
  files_are =
      subst (AreAll w takes.paths) (sym takes.ends.3)
      (files_all w s takes.mid asks.after old all takes.paths takes.visits takes.got takes.left over (λ path o. (walk.files path (takes.ordered.from path o)).at.shown) asks.before
      (told_parts w takes.visits takes.last (subst (TellsOne w) takes.parts told)).0 takes.chain takes.took takes.ends.0)

  dir_is : (path : Names) → IsOf path new.dirs → IsShownDir w path
  dir_is path of =
      let among = takes.dirs.from path of in
      let at = walk.dirs path (inr among) in
      (walk.named path among, (at.row, at.at, ap is_dir at.kind))

  is_there : (path : Names) → IsShownDir w path → IsOf path new.dirs
  is_there path (some, (row, at, kind)) = takes.dirs.all path (dir_found w read way path row walk none some at kind)

  file_is : (f : Kept) → IsOf f new.files → IsWholeFile w f
  file_is f of =
      let (among, whole) = files_are.each f of in
      let at = walk.files f.path (takes.ordered.from f.path among) in
      (whole.row, record { there = whole.at.there; shown = at.at.shown }, whole.at.file, whole.is)

  is_kept : (f : Kept) → IsWholeFile w f → IsOf f new.files
  is_kept f (row, at, kind, is) =
      let other = file_no_dir row.kind kind in
      let among = takes.ordered.all f.path (file_found w read way f.path row walk none (file_named w f.path row over.world.tree at.there other) at other) in
      let (k, of, named) = files_are.all f.path among in
      let whole = (files_are.each k of).1 in
      let there : look w.tree f.path ≡ Ok whole.row = subst (λ p. look w.tree p ≡ Ok whole.row) named whole.at.there in
      let same : k ≡ f = whole.is ∙ ap (λ p. whole_file w p whole.row) named ∙ ap (whole_file w f.path) (same_row whole.row row (look w.tree f.path) there at.there) ∙ sym is in
      subst (λ x. IsOf x new.files) same of

  pub is_mirror : IsCopy new → IsMirror w new
  is_mirror copy = record {
    order = copy;
    dirs = λ path. ((λ of. dir_is path of), (λ shown. is_there path shown));
    files = λ f. ((λ of. file_is f of), (λ whole. is_kept f whole));
  }

ok_lacks : ◌≡◌ {A = Result Unit MirrorError} (Ok tt) (Err NoMemory) → ⊥
ok_lacks e = cc

goes_mirror : (w : World) (s : PeerState) (old new : Copied) (all : List Visit) (read : List Names) (way : Way) (due : List Names) (count : Requests) (asks : Stretch) → IsOverOne w s old all asks.after
    → Walked w read way → way.due ≡ due → TellsOne w asks.visits → IsCopy new → Goes due way count old asks (Ok tt) new → IsMirror w new
goes_mirror w s old new all read way [] count asks over walk none told copy (inr un) = absurd (ok_lacks un.lacks)
goes_mirror w s old new all read way [] count asks over walk none told copy (inl takes) = is_mirror w s old new all asks over read way walk none count takes told copy
goes_mirror w s old new all read way (dir ∷ due) count asks over walk is told copy goes = absurd goes

-- the count behind the pages
pub goes_count : (due : List Names) (way : Way) (count : Requests) (old new : Copied) (asks : Stretch) → Goes due way count old asks (Ok tt) new → asks.before.faults ≤ asks.after.faults
goes_count [] way count old new asks (inr un) = absurd (ok_lacks un.lacks)
goes_count [] way count old new asks (inl takes) =
    let chain = visits_count asks.before takes.mid takes.visits takes.chain in
    let ends : asks.after.faults ≡ takes.mid.faults = ap (λ (x : PeerState). x.faults) takes.ends.2 in
    omega (arith, chain, ends)
goes_count (dir ∷ due) way count old new asks goes = absurd goes

pub mirrored : (s t : PeerState) (old new : Copied) (most : ℕ) (f : Fetched s old most (Ok tt) t new) (w : World) → IsOverOne w s old (visits_of f) t → IsMirror w new
mirrored s t old new most f w over =
    let (pages, rest) = told_parts w f.pages f.rest over.tells in
    let first = visits_count s f.mid f.pages (whole_visits s f.mid f.pages f.chain) in
    let asks : Stretch = record { before = f.mid; visits = f.rest; after = t } in
    let second = goes_count f.way.due f.way _ old new asks f.goes in
    let on = pages_walked w s f.mid f.pages f.way over.world pages (quiet_first s.faults f.mid.faults t.faults first second over.nothing) f.chain f.read in
    goes_mirror w s old new (visits_of f) on.read f.way f.way.due _ asks over on.walk refl rest (fetched_copy s t old new most (Ok tt) f over.copy) f.goes
