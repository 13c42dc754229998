-- What an answer of a local store's listing is, over its disk, and what the gathering of names leaves as it was.
use Rattle.std.proofs.Common.{◌≡◌, inl, ℕ, Bool, true, false, List, Option, None, Some, Result, Ok, Err, refl, sym, ap, ◌∙◌, subst}
use Rattle.dav_io.specs.declared.clock.Moment.{Moment}
use Rattle.dav_io.specs.declared.failure.NoMemory.{NoMemory as Starved}
use Rattle.dav_core.specs.declared.error.FsError.{FsError}
use Rattle.dav_core.specs.declared.member.Member.{Member}
use Rattle.dav_core.specs.Disk.{DiskState}
use Rattle.dav_core.specs.Unchanged.{Keeps}
use Rattle.dav_core.proofs.UnchangedLemmas.{keeps_same}
use Rattle.dav_store.specs.Members.{Answered}
use Rattle.dav_memory.specs.Builder.{BuilderState, Finishes, Settles, Site, may_settle, time_found}
use Rattle.dav_memory.specs.Entries.{one_time}
use Rattle.dav_memory.specs.Memory.{MemoryState}
use Rattle.dav_local.specs.declared.entry.LocalFsDirEntry.{LocalFsDirEntry}
use Rattle.dav_local.specs.Gathering.{AfterNext, GivesNext, LocalFsReadDir, site_of}
use Rattle.dav_local.specs.Listing.{ListingState, NextEntry}
use Rattle.dav_local.specs.Places.{Place}
use Rattle.dav_local.specs.Shown.{EndsBy}
use Rattle.dav_local.proofs.Keeping.{metas_keep}

-- What a listing answers, over the store's disk: what the disk's listing gave, and what followed.
pub record Next (s : DiskState) (d : LocalFsReadDir) (r : Result (Option LocalFsDirEntry) FsError) (t : DiskState) (e : LocalFsReadDir) : Type 0 where
  pub now : Moment
  pub given : Result (Option LocalFsDirEntry) FsError
  pub middle : DiskState
  pub reading : ListingState
  pub first : NextEntry s d.reading given middle reading
  pub before : Place
  pub start : before.disk ≡ middle
  pub after : Place
  pub disk : after.disk ≡ t
  pub follows : AfterNext d.builder given now before (record d { reading = reading }) r after e

pub next_of : (now : Moment) (p q : Place) (d e : LocalFsReadDir) (r : Result (Option LocalFsDirEntry) FsError) → GivesNext now p d r q e → Next p.disk d r q.disk e
next_of now p q d e r (given, t, f, first, follows) =
    record { now = now; given = given; middle = t; reading = f; first = first; before = record p { disk = t }; start = refl; after = q; disk = refl; follows = follows }

-- ---- an entry

-- An entry was given by the disk's listing, and the store is as it was then.
pub record IsEntry (given : Result (Option LocalFsDirEntry) FsError) (x : LocalFsDirEntry) (p : Place) (d : LocalFsReadDir) (q : Place) (e : LocalFsReadDir) : Type 0 where
  pub is : given ≡ Ok (Some x)
  pub store : q ≡ p
  pub reading : e.reading ≡ d.reading

pub entry_by : (builder : Option BuilderState) (given : Result (Option LocalFsDirEntry) FsError) (now : Moment) (p : Place) (d : LocalFsReadDir) (x : LocalFsDirEntry) (q : Place) (e : LocalFsReadDir)
    → AfterNext builder given now p d (Ok (Some x)) q e → IsEntry given x p d q e
entry_by None given now p d x q e (is, same, whole) = record { is = sym is; store = same; reading = ap (λ (z : LocalFsReadDir). z.reading) whole }
entry_by (Some b) (Ok (Some entry)) now p d x q e (same, (found, whole)) = record { is = ap Ok (sym found); store = same; reading = ap (λ (z : LocalFsReadDir). z.reading) whole }
entry_by (Some b) (Ok None) now p d x q e (Ok u, c, finishes, ways, is, whole) = cc
entry_by (Some b) (Ok None) now p d x q e (Err f, c, finishes, ways, is, whole) = cc
entry_by (Some b) (Err f) now p d x q e (is, same, whole) = cc

pub next_entry : (s t : DiskState) (d e : LocalFsReadDir) (x : LocalFsDirEntry) → Next s d (Ok (Some x)) t e → NextEntry s d.reading (Ok (Some x)) t e.reading
next_entry s t d e x n =
    let i = entry_by d.builder n.given n.now n.before (record d { reading = n.reading }) x n.after e n.follows in
    let disk : n.middle ≡ t = sym n.start ∙ (ap (λ (p : Place). p.disk) (sym i.store) ∙ n.disk) in
    subst (λ r. NextEntry s d.reading r t e.reading) i.is
    (subst (λ m. NextEntry s d.reading n.given m e.reading) disk
    (subst (λ k. NextEntry s d.reading n.given n.middle k) (sym i.reading) n.first))

-- ---- what stays

finished_keeps : (b c : BuilderState) (fin : Bool) (now : Moment) (p q : Place) (sealed : Result Unit Starved) → Finishes (λ m. m) fin (site_of b p) now sealed (site_of c q) → Keeps p.disk q.disk
finished_keeps b c true now p q sealed (ok, same, disk, memory) = subst (Keeps p.disk) (sym disk) (keeps_same p.disk)
finished_keeps b c false now p q sealed (answer, metas, is, settles) = metas_keep true p.disk b.dir answer q.disk metas

-- What follows an answer of the disk's listing leaves all of the disk that is told, and how paths are found.
pub after_keeps : (builder : Option BuilderState) (given : Result (Option LocalFsDirEntry) FsError) (now : Moment) (p : Place) (d : LocalFsReadDir) (r : Result (Option LocalFsDirEntry) FsError) (q : Place) (e : LocalFsReadDir)
    → AfterNext builder given now p d r q e → Keeps p.disk q.disk
after_keeps builder given now p d r q e after = by builder given r after
  where
    same_keeps : q ≡ p → Keeps p.disk q.disk
    same_keeps same = subst (λ (x : Place). Keeps p.disk x.disk) (sym same) (keeps_same p.disk)

    by : (builder : Option BuilderState) (given r : Result (Option LocalFsDirEntry) FsError) → AfterNext builder given now p d r q e → Keeps p.disk q.disk
    by None given r (is, same, whole) = same_keeps same
    by (Some b) (Ok (Some entry)) r (same, gathers) = same_keeps same
    by (Some b) (Ok None) r (sealed, c, finishes, ways, is, whole) = finished_keeps b c b.finished now p q sealed finishes
    by (Some b) (Err f) r (is, same, whole) = same_keeps same

pub after_ways : (builder : Option BuilderState) (given : Result (Option LocalFsDirEntry) FsError) (now : Moment) (p : Place) (d : LocalFsReadDir) (r : Result (Option LocalFsDirEntry) FsError) (q : Place) (e : LocalFsReadDir)
    → AfterNext builder given now p d r q e → q.ways ≡ p.ways
after_ways None given now p d r q e (is, same, whole) = ap (λ (x : Place). x.ways) same
after_ways (Some b) (Ok (Some entry)) now p d r q e (same, gathers) = ap (λ (x : Place). x.ways) same
after_ways (Some b) (Ok None) now p d r q e (sealed, c, finishes, ways, is, whole) = ways
after_ways (Some b) (Err f) now p d r q e (is, same, whole) = ap (λ (x : Place). x.ways) same

-- ---- the end of a walk

ends_by : (from : ℕ) (all : List Member) (answers : List Answered) (builder : Option BuilderState) (given : Result (Option LocalFsDirEntry) FsError) (now : Moment) (p : Place) (d : LocalFsReadDir)
    (r : Result (Option LocalFsDirEntry) FsError) (q : Place) (e : LocalFsReadDir) → AfterNext builder given now p d r q e → EndsBy from all answers given p.disk.faults → EndsBy from all answers r q.disk.faults
ends_by from all answers None given now p d r q e (is, same, whole) ends =
    subst (λ (x : Place). EndsBy from all answers r x.disk.faults) (sym same) (subst (λ g. EndsBy from all answers g p.disk.faults) (sym is) ends)
ends_by from all answers (Some b) (Ok (Some entry)) now p d (Ok found) q e (same, (is, whole)) ends = rw is tt
ends_by from all answers (Some b) (Ok (Some entry)) now p d (Err f) q e (same, (is, whole)) ends = inl is
ends_by from all answers (Some b) (Ok None) now p d r q e (Ok u, c, finishes, ways, is, whole) ends = rw is ends
ends_by from all answers (Some b) (Ok None) now p d r q e (Err f, c, finishes, ways, is, whole) ends = rw is (inl refl)
ends_by from all answers (Some b) (Err f) now p d r q e (is, same, whole) ends =
    subst (λ (x : Place). EndsBy from all answers r x.disk.faults) (sym same) (subst (λ g. EndsBy from all answers g p.disk.faults) (sym is) ends)

-- Why a walk ends is as the disk's listing says, or want of memory.
pub ends_after : (s t : DiskState) (d e : LocalFsReadDir) (r : Result (Option LocalFsDirEntry) FsError) (n : Next s d r t e) (from : ℕ) (all : List Member) (answers : List Answered)
    → EndsBy from all answers n.given n.middle.faults → EndsBy from all answers r t.faults
ends_after s t d e r n from all answers ends =
    subst (λ (x : DiskState). EndsBy from all answers r x.faults) n.disk
    (ends_by from all answers d.builder n.given n.now n.before (record d { reading = n.reading }) r n.after e n.follows
    (subst (λ (x : DiskState). EndsBy from all answers n.given x.faults) (sym n.start) ends))

-- ---- memories that say less than a store has

-- what a listing is finished with, as its memory is seen
abbrev seen : {M : Type 0} → (M → MemoryState) → Site M → Site MemoryState
seen state s = record { builder = s.builder; disk = s.disk; memory = state s.memory }

settles_seen : {M E : Type 0} (state : M → MemoryState) (time : Option _) (b : BuilderState) (now : Moment) (old new : M) (result : Result Unit E) → Settles state time b now old result new
    → Settles (λ m. m) time b now (state old) result (state new)
settles_seen state None b now old new result (ok, same) = (ok, ap state same)
settles_seen state (Some time) b now old new result settles = settles

pub finishes_seen : {M E : Type 0} (state : M → MemoryState) (fin : Bool) (old new : Site M) (now : Moment) (result : Result Unit E) → Finishes state fin old now result new
    → Finishes (λ m. m) fin (seen state old) now result (seen state new)
finishes_seen state true old new now result (ok, builder, disk, memory) = (ok, builder, disk, ap state memory)
finishes_seen state false old new now result (answer, metas, is, settles) =
    (answer, metas, is, settles_seen state (one_time (may_settle old.builder) (time_found answer)) old.builder now old.memory new.memory result settles)
