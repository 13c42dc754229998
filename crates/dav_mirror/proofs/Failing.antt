-- Where a fetch ends because its peer failed, the peer's count rose in it, and the last reply is the one that broke.
use Rattle.std.specs.Prelude.{IsErr}
use Rattle.std.proofs.Common.{◌≡◌, ◌==◌, ◌^◌, min, cond, Bool, true, false, inl, inr, ◌≤◌, ◌+◌, ℕ, List, [], ◌∷◌, ◌++◌, Option, None, Some, Result, Err, refl, sym, ap, subst, ◌∙◌, arith, length, append_assoc, eqb-true}
use Rattle.dav_io.specs.Counts.{Rose}
use Rattle.dav_io.specs.Outside.{Stream}
use Rattle.dav_io.specs.declared.failure.NoMemory.{NoMemory}
use Rattle.dav_core.specs.DavPath.{WebPath}
use Rattle.dav_core.specs.Disk.{DiskState}
use Rattle.dav_core.specs.Path.{Names}
use Rattle.dav_fetch.specs.declared.copied.Copied.{Copied}
use Rattle.dav_fetch.specs.declared.copied.Kept.{Kept}
use Rattle.dav_fetch.specs.declared.error.MirrorError.{MirrorError}
use Rattle.dav_fetch.specs.declared.error.MirrorError.TheVariants.{Peer as PeerFailed, Refused, Short, Budget, NoMemory as LacksMemory}
use Rattle.dav_fetch.specs.Fetching.{AtFile, AtPage, Fetched, FileEnds, FilesKept, Goes, Requests, Stretch, Visited, WholeVisits, visits_of}
use Rattle.dav_fetch.specs.Judging.{Use, gives, keeps, refuses, spoils}
use Rattle.dav_fetch.specs.Peer.{PeerState}
use Rattle.dav_fetch.specs.Walk.{Visit, Way}
use Rattle.dav_mirror.specs.Mirrors.{BrokeAt, EndsBy, Mirrors, Reports, status_of}
use Rattle.dav_mirror.specs.Report.{end_report}
use Rattle.dav_mirror.specs.Seen.{named_in, path_of, replies_in}
use Rattle.dav_mirror.specs.declared.play_peer.Heard.{Heard}
use Rattle.dav_mirror.specs.declared.report.Report.{Report}
use Rattle.dav_io.proofs.Rising.{rose_before}
use Rattle.dav_fetch.proofs.Quiet.{visit_counts, visits_count}

whole_count : (s t : PeerState) (visits : List Visit) → WholeVisits s visits t → s.faults ≤ t.faults
whole_count s t [] e = omega (arith, ap (λ (z : PeerState). z.faults) e)
whole_count s t (visit ∷ visits) (m, one, over, rest) = omega (arith, visit_counts s m visit one, whole_count m t visits rest)

file_rose : (path : Names) (worth : Use) (visit : Visit) (s t : PeerState) → FileEnds path worth visit PeerFailed s t → Rose s.faults t.faults
file_rose path (gives f n) visit s t e = e.1
file_rose path keeps visit s t e = absurd e
file_rose path refuses visit s t e = absurd e
file_rose path spoils visit s t e = absurd e

files_rose : (left : List Names) (files : FilesKept) (count : Requests) (last : Stretch) → AtFile left files count PeerFailed last → Rose last.before.faults last.after.faults
files_rose [] files count last e = absurd e
files_rose (path ∷ more) files count last (inl e) = e.not.2
files_rose (path ∷ more) files count last (inr e) =
    rose_before last.before.faults e.at.faults last.after.faults (visit_counts last.before e.at e.visit e.visited) (file_rose path e.worth e.visit e.at last.after e.ends)

page_rose : (dir : Names) (count : Requests) (last : Stretch) → AtPage dir count PeerFailed last → Rose last.before.faults last.after.faults
page_rose dir count last (inl (none, e)) = e.2
page_rose dir count last (inr (visit, m, one, visited, is, e)) = rose_before last.before.faults m.faults last.after.faults (visit_counts last.before m visit visited) e.1

no_want : (e : MirrorError) → e ≡ PeerFailed → (◌≡◌ {A = Result Unit MirrorError} (Err e) (Err LacksMemory)) → ⊥
no_want e is lacks = cc

goes_rose : (due : List Names) (way : Way) (count : Requests) (old : Copied) (asks : Stretch) (new : Copied) → Goes due way count old asks (Err PeerFailed) new → Rose asks.before.faults asks.after.faults
goes_rose [] way count old asks new (inl e) =
    rose_before asks.before.faults e.mid.faults asks.after.faults (visits_count asks.before e.mid e.visits e.chain)
    (files_rose e.left _ _ (record { before = e.mid; visits = e.last; after = asks.after }) e.ends)
goes_rose [] way count old asks new (inr e) = absurd (no_want PeerFailed refl e.lacks)
goes_rose (dir ∷ due) way count old asks new e = page_rose dir count asks e.0

pub fetched_rose : (s t : PeerState) (old new : Copied) (most : ℕ) → Fetched s old most (Err PeerFailed) t new → Rose s.faults t.faults
fetched_rose s t old new most f =
    rose_before s.faults f.mid.faults t.faults (whole_count s f.mid f.pages f.chain) (goes_rose f.way.due f.way _ old (record { before = f.mid; visits = f.rest; after = t }) new f.goes)

-- the same of the disk, whose count the peer has
pub disk_rose : (first last : PeerState) (before after : ℕ) → first.faults ≡ before → last.faults ≡ after → Rose first.faults last.faults → Rose before after
disk_rose first last before after a b rose = subst (λ n. Rose n after) a (subst (λ n. Rose first.faults n) b rose)

-- how a mirror ends behind an error
pub ends_by_error : (e : MirrorError) (copy : Copied) (before after : ℕ) (old new : Stream) (result : Result ℕ NoMemory) → new ≡ old → result ≡ status_of e
    → (e ≡ PeerFailed → Rose before after) → EndsBy (Err e) copy before after old result new
ends_by_error PeerFailed copy before after old new result same is rose = (same, is, rose refl)
ends_by_error LacksMemory copy before after old new result same is rose = (same, subst (λ r. IsErr r) (sym is) refl)
ends_by_error (Refused p status) copy before after old new result same is rose = (same, is)
ends_by_error (Short p got announced) copy before after old new result same is rose = (same, is)
ends_by_error (Budget made) copy before after old new result same is rose = (same, is)
ends_by_error other copy before after old new result same is rose = (same, is)

-- ---- which reply broke

abbrev EndsAt : WebPath → List Visit → Type 0
EndsAt path visits = (before : List Visit) × (visit : Visit) × (visits ≡ before ++ visit ∷ []) × (visit.path ≡ path)

-- what is named behind a visit is its path
visit_named : (s m t : PeerState) (visit : Visit) (path : WebPath) → Visited s visit m → t.path ≡ m.path → t.path ≡ Some path → visit.path ≡ path
visit_named s m t visit path visited same named = sym (visited.names path (sym visited.read.path ∙ sym same ∙ named))

none_named : (path : WebPath) (o : Option WebPath) → o ≡ None → o ≡ Some path → ⊥
none_named path o none some = cc

file_same : (names : Names) (worth : Use) (visit : Visit) (s t : PeerState) → FileEnds names worth visit PeerFailed s t → t.path ≡ s.path
file_same names (gives f n) visit s t e = e.2
file_same names keeps visit s t e = absurd e
file_same names refuses visit s t e = absurd e
file_same names spoils visit s t e = absurd e

file_broke : (left : List Names) (files : FilesKept) (count : Requests) (last : Stretch) (path : WebPath) → AtFile left files count PeerFailed last → last.after.path ≡ Some path → EndsAt path last.visits
file_broke [] files count last path e named = absurd e
file_broke (names ∷ more) files count last path (inl e) named = absurd (none_named path last.after.path e.not.3 named)
file_broke (names ∷ more) files count last path (inr e) named =
    ([], e.visit, e.one, visit_named last.before e.at last.after e.visit path e.visited (file_same names e.worth e.visit e.at last.after e.ends) named)

page_broke : (dir : Names) (count : Requests) (last : Stretch) (path : WebPath) → AtPage dir count PeerFailed last → last.after.path ≡ Some path → EndsAt path last.visits
page_broke dir count last path (inl (none, e)) named = absurd (none_named path last.after.path e.3 named)
page_broke dir count last path (inr (visit, m, one, visited, is, e)) named = ([], visit, one, visit_named last.before m last.after visit path visited e.2 named)

ends_behind : (path : WebPath) (front rest : List Visit) → EndsAt path rest → EndsAt path (front ++ rest)
ends_behind path front rest (before, visit, are, to) = (front ++ before, visit, ap (λ l. front ++ l) are ∙ sym (append_assoc front before (visit ∷ [])), to)

goes_broke : (due : List Names) (way : Way) (count : Requests) (old : Copied) (asks : Stretch) (new : Copied) (path : WebPath) → Goes due way count old asks (Err PeerFailed) new → asks.after.path ≡ Some path → EndsAt path asks.visits
goes_broke [] way count old asks new path (inl e) named =
    subst (EndsAt path) (sym e.parts) (ends_behind path e.visits e.last (file_broke e.left _ _ (record { before = e.mid; visits = e.last; after = asks.after }) path e.ends named))
goes_broke [] way count old asks new path (inr e) named = absurd (no_want PeerFailed refl e.lacks)
goes_broke (dir ∷ due) way count old asks new path e named = page_broke dir count asks path e.0 named

fetch_broke : (s t : PeerState) (old new : Copied) (most : ℕ) (path : WebPath) (f : Fetched s old most (Err PeerFailed) t new) → t.path ≡ Some path → BrokeAt path (visits_of f) t
fetch_broke s t old new most path f named =
    let ends = ends_behind path f.pages f.rest (goes_broke f.way.due f.way _ old (record { before = f.mid; visits = f.rest; after = t }) new path f.goes named) in
    record { before = ends.0; visit = ends.1; are = ends.2; to = ends.3; named = named }

-- the same of an error that is known to be that
pub error_broke : (e : MirrorError) (s t : PeerState) (old new : Copied) (most : ℕ) (path : WebPath) (f : Fetched s old most (Err e) t new) → e ≡ PeerFailed → t.path ≡ Some path → BrokeAt path (visits_of f) t
error_broke PeerFailed s t old new most path f is named = fetch_broke s t old new most path f named
error_broke LacksMemory s t old new most path f is named = cc
error_broke (Refused p status) s t old new most path f is named = cc
error_broke (Short p got announced) s t old new most path f is named = cc
error_broke (Budget made) s t old new most path f is named = cc
error_broke other s t old new most path f is named = cc

-- A peer that refused nothing, and failed, has a last reply.
pub reply_named : (heard : Heard) (body : Option ℕ) (failures refused : ℕ) → (path_of heard ≡ None → (body ≡ None) × (failures ≡ refused)) → refused ≡ 0 → Rose 0 failures
    → (path : WebPath) × (path_of heard ≡ Some path) × (named_in heard refused ≡ Some path)
reply_named heard body failures refused first none rose = by (path_of heard) refl
  where
    failed : Rose 0 failures → failures ≡ refused → ⊥
    failed (inl more) same = omega (arith, more, same, none)
    failed (inr full) same = omega (arith, full, same, none)

    by : (o : Option WebPath) → path_of heard ≡ o → (path : WebPath) × (path_of heard ≡ Some path) × (named_in heard refused ≡ Some path)
    by None e = absurd (failed rose (first e).1)
    by (Some path) e = (path, e, ap (named_in heard) none ∙ e)

-- what is told of an end
pub reports_end : (e : MirrorError) (copy : Copied) (visits : List Visit) (last : PeerState) (to : Option WebPath) (report : Option Report) → report ≡ Some (end_report e to)
    → (e ≡ PeerFailed → (path : WebPath) × (to ≡ Some path) × BrokeAt path visits last) → Reports (Err e) copy visits last report
reports_end PeerFailed copy visits last to report is broke =
    let (path, to_is, at) = broke refl in (path, is ∙ ap (λ o. Some (end_report PeerFailed o)) to_is, at)
reports_end LacksMemory copy visits last to report is broke = is
reports_end (Refused p status) copy visits last to report is broke = is
reports_end (Short p got announced) copy visits last to report is broke = is
reports_end (Budget made) copy visits last to report is broke = is
reports_end other copy visits last to report is broke = is

-- So few requests never ask the player for all its replies.
pub none_refused : (given refused : ℕ) → replies_in given refused ≤ 1000000 → refused ≡ 0
none_refused given refused few = by (refused == 0) refl few
  where
    by : (b : Bool) → (refused == 0) ≡ b → cond b (min given (2 ^ 31)) (2 ^ 31) ≤ 1000000 → refused ≡ 0
    by true e few = eqb-true refused 0 e
    by false e few = absurd (omega (arith, few))

pub same_faults : (faults refused : ℕ) → refused ≡ 0 → faults + refused ≡ faults
same_faults faults refused none = omega (arith, none)

-- the same of a disk in that state
pub mirrored : (before after disk : DiskState) (old : Stream) (result : Result ℕ NoMemory) (new : Stream) (report : Option Report) → after ≡ disk → Mirrors before disk old result new report
    → Mirrors before after old result new report
mirrored before after disk old result new report is m = subst (λ d. Mirrors before d old result new report) (sym is) m
