-- Each file of a copy is one of the entry, or a front of what its path had in a world that was met: kept by each visit.
use Rattle.std.proofs.Common.{◌≡◌, ◌⊎◌, inl, inr, ◌+◌, ◌++◌, length, ℕ, List, [], ◌∷◌, Bool, true, false, cond, Option, None, Some, IfSome, Result, Ok, Err, refl, sym, ap, subst, ◌∙◌}
use Rattle.std.specs.Option.{option_to_list}
use Rattle.dav_io.specs.Counts.{Rose}
use Rattle.dav_io.specs.Told.{Both}
use Rattle.dav_io.proofs.Cases.{some_of}
use Rattle.dav_core.specs.Path.{Names, same_names}
use Rattle.dav_core.proofs.Plain.{names_same}
use Rattle.dav_core.proofs.Elements.{in_either}
use Rattle.dav_core.specs.World.{World}
use Rattle.dav_fetch.specs.declared.copied.Copied.{Copied}
use Rattle.dav_fetch.specs.declared.copied.Kept.{Kept}
use Rattle.dav_fetch.specs.declared.error.MirrorError.{MirrorError}
use Rattle.dav_fetch.specs.Asking.{asked_for, awaits, file_path}
use Rattle.dav_fetch.specs.Copy.{IsOf, IsOfWorld}
use Rattle.dav_fetch.specs.Fetching.{AtFile, Fetched, FilesEnd, FilesKept, Goes, Requests, Stretch, Takes, visits_of, Files, IsFileVisit, Visited, Visits, kept_at, kept_of, taken}
use Rattle.dav_fetch.specs.Judging.{Use, gives, grown, keeps, refuses, spoils}
use Rattle.dav_fetch.specs.Mirroring.{AllTold, AreKept, IsGood, IsMet, IsSound, MetIn}
use Rattle.dav_fetch.specs.Peer.{Came, PeerState, RepliesIn, RepliesOf, Seen}
use Rattle.dav_fetch.specs.Reading.{ReadOn}
use Rattle.dav_fetch.specs.Walk.{Visit, Way}
use Rattle.dav_fetch.proofs.Stepping.{step}

-- what an exit may have of a file
abbrev pub FromSome : List Kept → List Visit → Kept → Type 0
FromSome old all k = IsOf k old ⊎ ((w : World) × MetIn w all × IsOfWorld w k)

pub found : (path : Names) (files : List Kept) (k : Kept) → kept_at path files ≡ Some k → (k.path ≡ path) × IsOf k files
found path [] k e = cc
found path (f ∷ files) k e = by (found path files k) (same_names path f.path) refl e
  where
    by : (kept_at path files ≡ Some k → (k.path ≡ path) × IsOf k files) → (t : Bool) → same_names path f.path ≡ t → cond t (Some f) (kept_at path files) ≡ Some k → (k.path ≡ path) × IsOf k (f ∷ files)
    by behind true same is =
        let here : f ≡ k = cc in (ap (λ (x : Kept). x.path) (sym here) ∙ sym (names_same path f.path same), inl (sym here))
    by behind false same is = let there = behind is in (there.0, inr there.1)

of_kept : (path : Names) (files : List Kept) (k : Kept) (o : Option Kept) → kept_at path files ≡ o → IsOf k (option_to_list o) → IsOf k files
of_kept path files k None e is = absurd is
of_kept path files k (Some f) e (inl same) = subst (λ x. IsOf x files) (sym same) (found path files f e).1
of_kept path files k (Some f) e (inr more) = absurd more

pub of_rest : (paths : List Names) (files : List Kept) (k : Kept) → IsOf k (kept_of paths files) → IsOf k files
of_rest [] files k is = absurd is
of_rest (path ∷ paths) files k is = elim (in_either k (option_to_list (kept_at path files)) (kept_of paths files) is) [
  | inl here ↦ of_kept path files k (kept_at path files) refl here
  | inr there ↦ of_rest paths files k there
]

-- the request for a file is by what the entry had of it
good_at : (w : World) (path : Names) (old : List Kept) → AreKept old → IsMet old w → (o : Option Kept) → kept_at path old ≡ o → IfSome o (IsGood w path)
good_at w path old kept met None e = tt
good_at w path old kept met (Some k) e =
    let there = found path old k e in
    record { path = there.0; kept = (kept k there.1).0; faithful = met.faithful k there.1; small = (kept k there.1).1 }

-- what came of a told visit is a front of what is left of its reply's body
left_of : (at t : PeerState) (now : Seen) (came : List ℕ) → at.told ≡ Some now → ReadOn at came t → (more : List ℕ) × (now.left ≡ came ++ more)
left_of at t now came told read = by at.told t.told told read.told
  where
    by : (a b : Option Seen) → a ≡ Some now → Both a b (Came came) → (more : List ℕ) × (now.left ≡ came ++ more)
    by None b e h = cc
    by (Some x) None e h = absurd h
    by (Some x) (Some y) e h = let same : x ≡ now = cc in (y.left, ap (λ (z : Seen). z.left) (sym same) ∙ h.1)

-- What comes of a file by a visit that is told.
came_of : (w : World) (path : Names) (old : List Kept) (s t : PeerState) (visit : Visit) (f : Kept) (n : ℕ)
    → AreKept old → IsMet old w → visit.world ≡ Some w → Visited s visit t → IsFileVisit path (kept_at path old) visit (gives f n)
    → IsOfWorld w (grown f n visit.came)
came_of w path old s t visit f n kept met told visited file =
    let (now, is, same, reply) = subst (λ o. RepliesIn o visit.path visit.asked (Rose s.faults visited.at.faults) visit.got visited.at.told) told visited.is in
    let (more, left) = left_of visited.at t now visit.came is visited.read in
    let r : RepliesOf w (file_path path) (asked_for (awaits (kept_at path old))) (Rose s.faults visited.at.faults) visit.got now.left =
    subst (λ p. RepliesOf w p (asked_for (awaits (kept_at path old))) (Rose s.faults visited.at.faults) visit.got now.left) file.path_is
    (subst (λ a. RepliesOf w visit.path a (Rose s.faults visited.at.faults) visit.got now.left) file.asked reply) in
    step w path (kept_at path old) (good_at w path old kept met (kept_at path old) refl) _ visit.got now.left visit.came more f n (met.short path) r file.judged left

-- What a visit leaves of its file.
visit_sound : (w : World) (path : Names) (old : List Kept) (all : List Visit) (s t : PeerState) (visit : Visit) (worth : Use) (k : Kept)
    → AreKept old → IsMet old w → MetIn w all → visit.world ≡ Some w → Visited s visit t
    → IsFileVisit path (kept_at path old) visit worth → IsOf k (option_to_list (taken (kept_at path old) worth visit.came)) → FromSome old all k
visit_sound w path old all s t visit (gives f n) k kept met of told visited file (inl same) =
    inr (w, of, subst (IsOfWorld w) (sym same) (came_of w path old s t visit f n kept met told visited file))
visit_sound w path old all s t visit (gives f n) k kept met of told visited file (inr more) = absurd more
visit_sound w path old all s t visit keeps k kept met of told visited file is = inl (of_kept path old k (kept_at path old) refl is)
visit_sound w path old all s t visit refuses k kept met of told visited file is = inl (of_kept path old k (kept_at path old) refl is)
visit_sound w path old all s t visit spoils k kept met of told visited file is = inl (of_kept path old k (kept_at path old) refl is)

-- Each of these visits is told, by a world that was met.
abbrev pub AllMet : List Kept → List Visit → List Visit → Type 0
AllMet old all [] = Unit {0}
AllMet old all (v ∷ vs) = ((w : World) × (v.world ≡ Some w) × IsMet old w × MetIn w all) × AllMet old all vs

-- So do all of them.
files_sound : (old : List Kept) (paths : List Names) (all visits : List Visit) (got : List Kept) (left : List Names) (s t : PeerState) (k : Kept) → AreKept old → AllMet old all visits
    → Visits s visits t → Files old paths visits got left → IsOf k got → FromSome old all k
files_sound old paths all [] got left s t k kept met visits (none, same) is = absurd (subst (IsOf k) none is)
files_sound old [] all (v ∷ vs) got left s t k kept met visits took is = absurd took
files_sound old (path ∷ paths) all (v ∷ vs) got left s t k kept (here, met) (m, visited, visits) (worth, rest, file, whole, parts, took) is =
    elim (in_either k (option_to_list (taken (kept_at path old) worth v.came)) rest (subst (IsOf k) parts is)) [
      | inl first ↦ let (w, told, good, of) = here in visit_sound w path old all s m v worth k kept good of told visited file first
      | inr more ↦ files_sound old paths all vs rest left m t k kept met visits took more
    ]

-- ---- the whole work

all_met : (old : List Kept) (all visits : List Visit) → AllTold visits → ((w : World) → MetIn w visits → MetIn w all) → ((w : World) → MetIn w all → IsMet old w) → AllMet old all visits
all_met old all [] told inside met = tt
all_met old all (v ∷ vs) told inside met =
    let (w, is) = some_of v.world told.0 in
    let of = inside w (inl is) in
    ((w, is, met w of, of), all_met old all vs told.1 (λ u m. inside u (inr m)) met)

told_both : (a b : List Visit) → AllTold (a ++ b) → AllTold a × AllTold b
told_both [] b told = (tt, told)
told_both (v ∷ a) b told = let both = told_both a b told.1 in ((told.0, both.0), both.1)

met_left : (w : World) (a b : List Visit) → MetIn w a → MetIn w (a ++ b)
met_left w [] b m = absurd m
met_left w (v ∷ a) b (inl m) = inl m
met_left w (v ∷ a) b (inr m) = inr (met_left w a b m)

met_right : (w : World) (a b : List Visit) → MetIn w b → MetIn w (a ++ b)
met_right w [] b m = m
met_right w (v ∷ a) b m = inr (met_right w a b m)

-- A file was due where it ended.
at_file : (files : FilesKept) (all : List Visit) (left : List Names) (count : Requests) (e : MirrorError) (last : Stretch) (k : Kept) → AreKept files.old → AllTold last.visits
    → ((w : World) → MetIn w last.visits → MetIn w all) → ((w : World) → MetIn w all → IsMet files.old w) → (IsOf k files.got → FromSome files.old all k) → AtFile left files count e last
    → IsOf k files.new → FromSome files.old all k
at_file files all [] count e last k kept told inside met sound end is = absurd end
at_file files all (path ∷ paths) count e last k kept told inside met sound (inl not) is =
    elim (in_either k files.got (kept_of (path ∷ paths) files.old) (subst (IsOf k) not.kept is)) [
      | inl first ↦ sound first
      | inr more ↦ inl (of_rest (path ∷ paths) files.old k more)
    ]
at_file files all (path ∷ paths) count e last k kept told inside met sound (inr asked) is =
    elim (in_either k files.got (option_to_list (taken (kept_at path files.old) asked.worth asked.visit.came) ++ kept_of paths files.old) (subst (IsOf k) asked.kept is)) [
      | inl first ↦ sound first
      | inr more ↦ elim (in_either k (option_to_list (taken (kept_at path files.old) asked.worth asked.visit.came)) (kept_of paths files.old) more) [
        | inl here ↦ let (w, told_w) = some_of asked.visit.world (subst AllTold asked.one told).0 in
            let of = inside w (subst (MetIn w) (sym asked.one) (inl told_w)) in
            visit_sound w path files.old all last.before asked.at asked.visit asked.worth k kept (met w of) of told_w asked.visited asked.is here
        | inr later ↦ inl (of_rest paths files.old k later)
      ]
    ]

takes_sound : (way : Way) (count : Requests) (old : Copied) (pages : List Visit) (asks : Stretch) (result : Result Unit MirrorError) (new : Copied)
    → AreKept old.files → AllTold asks.visits → ((w : World) → MetIn w (pages ++ asks.visits) → IsMet old.files w) → Takes way count old asks result new → IsSound old (pages ++ asks.visits) new
takes_sound way count old pages asks result new kept told met takes k is = by result takes.ends
  where
    files : FilesKept
    files = record { old = old.files; got = takes.got; new = new.files }

    now : Requests
    now = record { made = count.made + length takes.visits; most = count.most }

    last : Stretch
    last = record { before = takes.mid; visits = takes.last; after = asks.after }

    both : AllTold takes.visits × AllTold takes.last
    both = told_both takes.visits takes.last (subst AllTold takes.parts told)

    inside : (w : World) → MetIn w takes.visits → MetIn w (pages ++ asks.visits)
    inside w m = met_right w pages asks.visits (subst (MetIn w) (sym takes.parts) (met_left w takes.visits takes.last m))

    last_inside : (w : World) → MetIn w takes.last → MetIn w (pages ++ asks.visits)
    last_inside w m = met_right w pages asks.visits (subst (MetIn w) (sym takes.parts) (met_right w takes.visits takes.last m))

    sound : IsOf k takes.got → FromSome old.files (pages ++ asks.visits) k
    sound of = files_sound old.files takes.paths (pages ++ asks.visits) takes.visits takes.got takes.left asks.before takes.mid k kept
        (all_met old.files (pages ++ asks.visits) takes.visits both.0 inside met) takes.chain takes.took of

    by : (r : Result Unit MirrorError) → FilesEnd takes.left files now r last → FromSome old.files (pages ++ asks.visits) k
    by (Ok x) (left, none, state, same) = sound (subst (IsOf k) same is)
    by (Err e) end = at_file files (pages ++ asks.visits) takes.left now e last k kept both.1 last_inside met sound end is

goes_sound : (due : List Names) (way : Way) (count : Requests) (old : Copied) (pages : List Visit) (asks : Stretch) (result : Result Unit MirrorError) (new : Copied)
    → AreKept old.files → AllTold asks.visits → ((w : World) → MetIn w (pages ++ asks.visits) → IsMet old.files w) → Goes due way count old asks result new → IsSound old (pages ++ asks.visits) new
goes_sound [] way count old pages asks result new kept told met (inl takes) = takes_sound way count old pages asks result new kept told met takes
goes_sound [] way count old pages asks result new kept told met (inr un) = λ k is. inl (subst (λ (c : Copied). IsOf k c.files) un.same is)
goes_sound (dir ∷ due) way count old pages asks (Ok x) new kept told met goes = absurd goes
goes_sound (dir ∷ due) way count old pages asks (Err e) new kept told met (at, same) = λ k is. inl (subst (λ (c : Copied). IsOf k c.files) same is)

-- Whatever the answer: each file at exit is one of the entry, or a front of what its path had in a world of the call.
pub fetched_sound : (s t : PeerState) (old new : Copied) (most : ℕ) (result : Result Unit MirrorError) (f : Fetched s old most result t new) → AreKept old.files
    → AllTold (visits_of f) → ((w : World) → MetIn w (visits_of f) → IsMet old.files w) → IsSound old (visits_of f) new
fetched_sound s t old new most result f kept told met =
    goes_sound f.way.due f.way _ old f.pages (record { before = f.mid; visits = f.rest; after = t }) result new kept (told_both f.pages f.rest told).1 met f.goes
