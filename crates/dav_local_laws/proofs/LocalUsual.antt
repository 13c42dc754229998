-- A local store refuses few things, and fails only where its disk met a fault. Of a listing this counts from where it was begun, as
-- it is read ahead.
use Rattle.std.proofs.Common.{◌≡◌, ◌≤◌, ◌||◌, ℕ, List, [], ◌∷◌, ◌++◌, Bool, true, false, not, ◌&&◌, Option, None, Some, Result, Ok, Err, IfSome, refl, sym, ap, subst, ◌∙◌, inl, inr, arith, if◌then◌else◌, drop}
use Rattle.std.specs.List.{AllByRecursion}
use Rattle.dav_io.specs.Counts.{Rose}
use Rattle.dav_core.specs.declared.error.FsError.{FsError}
use Rattle.dav_core.specs.declared.error.FsError.TheVariants as fs
use Rattle.dav_core.specs.declared.handle.DiskError.{DiskError}
use Rattle.dav_core.specs.declared.handle.DiskError.TheVariants.{NotFound, Exists, NotDir, IsDir, NotEmpty, Failed, NoMemory}
use Rattle.dav_core.specs.declared.handle.Handle.{Handle}
use Rattle.dav_core.specs.declared.handle.Lister.{Lister}
use Rattle.dav_core.specs.declared.handle.Meta.{Meta}
use Rattle.dav_core.specs.declared.handle.OpenOptions.{OpenOptions}
use Rattle.dav_core.specs.DavPath.{WebPath}
use Rattle.dav_core.specs.Disk.{DiskState, IsCounted, MetasBy, Opens}
use Rattle.dav_core.specs.Errors.{fs_error_of}
use Rattle.dav_core.specs.Info.{Info, info_of}
use Rattle.dav_core.specs.Listing.{ListsOn}
use Rattle.dav_core.specs.Path.{Names}
use Rattle.dav_core.specs.Tree.{is_dir}
use Rattle.dav_core.specs.Unchanged.{Keeps}
use Rattle.dav_core.specs.Writing.{Copies, CreatesDir, RemovesDir, RemovesFile}
use Rattle.dav_store.specs.declared.entry.ReadDirMeta.{ReadDirMeta}
use Rattle.dav_store.specs.declared.entry.ReadDirMeta.TheVariants as wanted
use Rattle.dav_store.specs.Files.{Spoiled}
use Rattle.dav_store.specs.Members.{Answered, Walked, begun, goes as walks}
use Rattle.dav_store.specs.View.{Listings, View}
use Rattle.dav_store.proofs.Reading.{rose_from, rose_on}
use Rattle.dav_methods.specs.Answers.{RefusedUsually, RefusesUsually, Usual, is_usual}
use Rattle.dav_walks.specs.Pouring.{Writes}
use Rattle.dav_memory.specs.Memory.{MemoryState}
use Rattle.dav_model.specs.Finding.{has_slash, is_forbidden, is_virtual}
use Rattle.dav_local.specs.declared.entry.EntryMeta.{EntryMeta}
use Rattle.dav_local.specs.declared.entry.EntryMeta.TheVariants.{At, Read}
use Rattle.dav_local.specs.declared.entry.LocalFsDirEntry.{LocalFsDirEntry}
use Rattle.dav_local.specs.declared.file.LocalFsFile.{LocalFsFile}
use Rattle.dav_local.specs.declared.meta.LocalFsMetaData.{LocalFsMetaData}
use Rattle.dav_local.specs.declared.ways.Ways.{Ways}
use Rattle.dav_local.specs.Calls.{AfterAbsent, AfterFound, AfterMove, AfterNotDir, Asks, AsksToCopy, AsksToMake, AsksToMove, AsksToTakeDir, AsksToTakeFile, BeginsAt, Finds, FindsBoth, IsOpening, Looks, LooksAt, MovesAgain, MovesAt, Place, Unless, again_by, blocked_by, is_shut}
use Rattle.dav_local.specs.Entries.{Says, said_info}
use Rattle.dav_local.specs.Files.{done_by, filed, looked_as, said_by}
use Rattle.dav_local.specs.Listing.{Begins, stopped, Fills, Gives, GivesEntry, IsKnown, ListingState, NextEntry, ReadsOne, Refills, WasRead, dir_of, with_given}
use Rattle.dav_local.specs.Listing.Fills.{full, ended, more}
use Rattle.dav_local.specs.Resolving.{Resolves}
use Rattle.dav_local.specs.Ways.{rules_of}
use Rattle.dav_local.specs.Writing.{WritesAll}
use Rattle.dav_local.specs.Writing.WritesAll.{more as writes_more, nothing, refused as write_refused}
use Rattle.dav_local.proofs.ByRules.{tells_keeps}
use Rattle.dav_local.proofs.Filling.{given_keeps}
use Rattle.dav_local.proofs.Fronts.{refills_counts, same_entry}
use Rattle.dav_local_laws.specs.LocalStore.{IsLocalStore, place}
use Rattle.dav_io.specs.declared.clock.Moment.{Moment}
use Rattle.dav_io.specs.declared.failure.NoMemory.{NoMemory as Starved}
use Rattle.dav_memory.specs.Builder.{BuilderState}
use Rattle.dav_local.specs.declared.gathering.LocalFsReadDir.{LocalFsReadDir}
use Rattle.dav_local.specs.Gathering.{AfterNext, BeginsDir, at_end, dir_with, gathers}
use Rattle.dav_local.proofs.Gathered.{Next, after_keeps}
use Rattle.dav_local_laws.proofs.LocalListings.{next_local}

-- ---- what a disk is refused with

usual_error : (d : DiskError) → is_usual (fs_error_of d) ≡ true
usual_error NotFound = refl
usual_error Exists = refl
usual_error NotDir = refl
usual_error IsDir = refl
usual_error NotEmpty = refl
usual_error Failed = refl
usual_error NoMemory = refl

failing_error : (d : DiskError) → fs_error_of d ≡ fs.GeneralFailure → d ≡ Failed
failing_error NotFound e = cc
failing_error Exists e = cc
failing_error NotDir e = cc
failing_error IsDir e = cc
failing_error NotEmpty e = cc
failing_error Failed e = refl
failing_error NoMemory e = cc

refused_by : (T U : Type 0) (d : DiskError) (s t : DiskState) → IsCounted {T = T} (Err d) s t → RefusedUsually {T = U} s (Err (fs_error_of d)) t
refused_by T U d s t counted = (usual_error d, λ e. counted.rose (ap Err (failing_error d e)))

-- refused, with nothing asked
refused_at_once : (T : Type 0) (e : FsError) (result : Result T FsError) (s t : DiskState) → result ≡ Err e → t ≡ s → is_usual e ≡ true → (e ≡ fs.GeneralFailure → ⊥) → Usual {T = T} s result t
refused_at_once T e result s t is same usual never =
    rw (is, same) (record { counts = omega arith; refused = (usual, λ f. absurd (never f)) })

-- what is refused usually is so from before
usual_from : (T : Type 0) (r : Result T FsError) (s m t : DiskState) → s.faults ≤ m.faults → Usual {T = T} m r t → Usual {T = T} s r t
usual_from T (Ok x) s m t le usual = record { counts = (let more = usual.counts in omega (arith, le, more)); refused = tt }
usual_from T (Err e) s m t le usual = record {
  counts = (let more = usual.counts in omega (arith, le, more));
  refused = (usual.refused.0, λ f. rose_from s.faults m.faults t.faults le (usual.refused.1 f));
}

-- a fault, or want of memory
spoiled_usual : (T U : Type 0) (e : FsError) (r : Result T FsError) (s t : DiskState) → s.faults ≤ t.faults → r ≡ Err e → Spoiled {T = U} s (Err e) t → Usual {T = T} s r t
spoiled_usual T U e r s t le is (inl (general, rose)) =
    let same : e ≡ fs.GeneralFailure = cc in rw (is, same) (record { counts = le; refused = (refl, λ f. rose) })
spoiled_usual T U e r s t le is (inr none) =
    let same : e ≡ fs.NoMemory = cc in rw (is, same) (record { counts = le; refused = (refl, λ f. cc) })

-- ---- a call at the place where a path is found

found_usual : (T : Type 0) (p q : Place) (call : Names → Place → Result T FsError → Place → Type 0) (r : Result T FsError) (found : Result Names FsError) (m : Place) (names : Names)
    → ((at : Names) (k : Place) → call at k r q → Usual k.disk r q.disk) → Resolves p names found m → AfterFound found m call r q → Usual p.disk r q.disk
found_usual T p q call r (Ok at) m names each resolves after =
    usual_from T r p.disk m.disk q.disk resolves.keeps.counts (each at m after)
found_usual T p q call r (Err e) m names each resolves (is, ends) =
    let same : q.disk ≡ m.disk = ap (λ (x : Place). x.disk) ends in
    spoiled_usual T Names e r p.disk q.disk (subst (λ (x : DiskState). p.disk.faults ≤ x.faults) (sym same) resolves.keeps.counts) is
    (subst (λ x. Spoiled {T = Names} p.disk (Err e) x) (sym same) resolves.refused)

finds_usual : (T : Type 0) (p q : Place) (names : Names) (call : Names → Place → Result T FsError → Place → Type 0) (r : Result T FsError)
    → ((at : Names) (k : Place) → call at k r q → Usual k.disk r q.disk) → Finds p names call r q → Usual p.disk r q.disk
finds_usual T p q names call r each (found, m, resolves, after) = found_usual T p q call r found m names each resolves after

unless_usual : (T : Type 0) (shut : Bool) (p q : Place) (call : Place → Result T FsError → Place → Type 0) (r : Result T FsError)
    → (call p r q → Usual p.disk r q.disk) → Unless shut p call r q → Usual p.disk r q.disk
unless_usual T shut p q call r each run = by shut refl
  where
    by : (b : Bool) → shut ≡ b → Usual p.disk r q.disk
    by true e = let (is, same) = run.forbidden e in refused_at_once T fs.Forbidden r p.disk q.disk is (ap (λ (x : Place). x.disk) same) refl (λ f. cc)
    by false e = each (run.asked e)

asks_usual : (A T : Type 0) (call : DiskState → Result A DiskError → DiskState → Type 0) (says : Result A DiskError → Result T FsError) (p q : Place) (r : Result T FsError)
    → ((answer : Result A DiskError) (t : DiskState) → call p.disk answer t → Usual p.disk (says answer) t) → Asks call says p r q → Usual p.disk r q.disk
asks_usual A T call says p q r each (answer, t, asked, is, ends) =
    let same : q.disk ≡ t = ap (λ (x : Place). x.disk) ends in
    rw (is, same) (each answer t asked)

-- ---- what a store says of a disk's answer

slash_usual : (b : Bool) (info : Info) (s t : DiskState) → RefusedUsually {T = Info} s (if b then Err fs.Forbidden else Ok info) t
slash_usual true info s t = (refl, λ e. cc)
slash_usual false info s t = tt

looked_usual : (slash : Bool) (answer : Result Meta DiskError) (s t : DiskState) → IsCounted answer s t → RefusedUsually s (looked_as slash answer) t
looked_usual slash (Ok m) s t counted = slash_usual (slash && not (is_dir m.kind)) (info_of m) s t
looked_usual slash (Err d) s t counted = refused_by Meta Info d s t counted

filed_usual : (answer : Result Handle DiskError) (s t : DiskState) → IsCounted answer s t → RefusedUsually s (filed answer) t
filed_usual (Ok h) s t counted = tt
filed_usual (Err d) s t counted = refused_by Handle LocalFsFile d s t counted

done_usual : (answer : Result Unit DiskError) (s t : DiskState) → IsCounted answer s t → RefusedUsually s (done_by answer) t
done_usual (Ok x) s t counted = tt
done_usual (Err d) s t counted = refused_by Unit Unit d s t counted

dir_usual : (path : Names) (how : ReadDirMeta) (answer : Result Lister DiskError) (s t : DiskState) → IsCounted answer s t → RefusedUsually s (dir_of path how answer) t
dir_usual path how (Ok l) s t counted = tt
dir_usual path how (Err d) s t counted = refused_by Lister ListingState d s t counted

counted_done : (answer : Result Unit DiskError) (s t : DiskState) → IsCounted answer s t → Usual s (done_by answer) t
counted_done answer s t counted = record { counts = counted.counts; refused = done_usual answer s t counted }

-- ---- looks

absent_usual : (p n q : Place) (absent : Result Bool Starved) (follows slash : Bool) (at : Names) (r : Result Info FsError) → Keeps p.disk n.disk → AfterAbsent absent follows slash at n r q → Usual p.disk r q.disk
absent_usual p n q (Err e) follows slash at r keeps (is, ends) =
    let same : q.disk ≡ n.disk = ap (λ (x : Place). x.disk) ends in
    rw (is, same) (record { counts = keeps.counts; refused = (refl, λ f. cc) })
absent_usual p n q (Ok true) follows slash at r keeps (is, ends) =
    let same : q.disk ≡ n.disk = ap (λ (x : Place). x.disk) ends in
    rw (is, same) (record { counts = keeps.counts; refused = (refl, λ f. cc) })
absent_usual p n q (Ok false) follows slash at r keeps asks =
    usual_from Info r p.disk n.disk q.disk keeps.counts
    (asks_usual Meta Info (λ s answer t. MetasBy follows s at answer t) (looked_as slash) n q r
    (λ answer t metas. record { counts = metas.asks.counts; refused = looked_usual slash answer n.disk t metas.asks.counted }) asks)

look_usual : (follows : Bool) (p q : Place) (path : WebPath) (r : Result Info FsError) → Looks follows p path r q → Usual p.disk r q.disk
look_usual follows p q path r looks = by (is_virtual (rules_of p.ways) path) refl
  where
    by : (b : Bool) → is_virtual (rules_of p.ways) path ≡ b → Usual p.disk r q.disk
    by true e = let (is, same) = looks.empty e in
        let ends : q.disk ≡ p.disk = ap (λ (x : Place). x.disk) same in
        rw (is, ends) (record { counts = omega arith; refused = tt })
    by false e = finds_usual Info p q path.names (LooksAt follows (has_slash p.ways.alone path)) r
        (λ at k (absent, n, tells, after). absent_usual k n q absent follows (has_slash p.ways.alone path) at r (tells_keeps k n at absent tells) after) (looks.asked e)

-- ---- the other calls

opening_usual : (p q : Place) (path : WebPath) (how : OpenOptions) (r : Result LocalFsFile FsError) → IsOpening p path how r q → Usual p.disk r q.disk
opening_usual p q path how r opening =
    unless_usual LocalFsFile (is_shut p.ways path) p q _ r (λ run. finds_usual LocalFsFile p q path.names _ r
    (λ at k asks. asks_usual Handle LocalFsFile (λ s answer t. Opens s at how answer t) filed k q r
    (λ answer t opens. record { counts = opens.asks.counts; refused = filed_usual answer k.disk t opens.asks.counted }) asks) run) opening

make_usual : (p q : Place) (path : WebPath) (r : Result Unit FsError) → AsksToMake p path r q → Usual p.disk r q.disk
make_usual p q path r makes =
    unless_usual Unit (is_forbidden (rules_of p.ways) path) p q _ r (λ run. finds_usual Unit p q path.names _ r
    (λ at k asks. asks_usual Unit Unit (λ s answer t. CreatesDir s at answer t) done_by k q r (λ answer t does. counted_done answer k.disk t does.asks.counted) asks) run) makes

take_dir_usual : (p q : Place) (path : WebPath) (r : Result Unit FsError) → AsksToTakeDir p path r q → Usual p.disk r q.disk
take_dir_usual p q path r takes =
    finds_usual Unit p q path.names _ r
    (λ at k asks. asks_usual Unit Unit (λ s answer t. RemovesDir s at answer t) done_by k q r (λ answer t does. counted_done answer k.disk t does.asks.counted) asks) takes

take_file_usual : (p q : Place) (path : WebPath) (r : Result Unit FsError) → AsksToTakeFile p path r q → Usual p.disk r q.disk
take_file_usual p q path r takes =
    unless_usual Unit (is_shut p.ways path) p q _ r (λ run. finds_usual Unit p q path.names _ r
    (λ at k asks. asks_usual Unit Unit (λ s answer t. RemovesFile s at answer t) done_by k q r (λ answer t does. counted_done answer k.disk t does.asks.counted) asks) run) takes

both_usual : (p q : Place) (from to : WebPath) (call : Names → Names → Place → Result Unit FsError → Place → Type 0) (r : Result Unit FsError)
    → ((at into : Names) (k : Place) → call at into k r q → Usual k.disk r q.disk) → FindsBoth p from to call r q → Usual p.disk r q.disk
both_usual p q from to call r each both =
    unless_usual Unit (is_forbidden (rules_of p.ways) from || is_forbidden (rules_of p.ways) to) p q _ r
    (λ run. finds_usual Unit p q from.names _ r (λ at k rest. finds_usual Unit k q to.names (call at) r (each at) rest) run) both

copy_usual : (p q : Place) (from to : WebPath) (r : Result Unit FsError) → AsksToCopy p from to r q → Usual p.disk r q.disk
copy_usual p q from to r copies =
    both_usual p q from to _ r
    (λ at into k asks. asks_usual Unit Unit (λ s answer t. Copies s at into answer t) done_by k q r (λ answer t does. counted_done answer k.disk t does.asks.counted) asks) copies

blocked_usual : (T : Type 0) (d : DiskError) (s m t : DiskState) → IsCounted {T = T} (Err d) s m → m.faults ≤ t.faults → Usual {T = Unit} s (Err (blocked_by d)) t
blocked_usual T d s m t counted later = record { counts = omega (arith, counted.counts, later); refused = by d counted }
  where
    by : (d : DiskError) → IsCounted {T = T} (Err d) s m → RefusedUsually {T = Unit} s (Err (blocked_by d)) t
    by NotFound counted = (refl, λ f. cc)
    by Exists counted = (refl, λ f. cc)
    by NotDir counted = (refl, λ f. cc)
    by IsDir counted = (refl, λ f. cc)
    by NotEmpty counted = (refl, λ f. cc)
    by Failed counted = (refl, λ f. rose_on s.faults m.faults t.faults (counted.rose refl) later)
    by NoMemory counted = (refl, λ f. cc)

again_answer : (removal again : Result Unit DiskError) (s m t : DiskState) → IsCounted removal s m → IsCounted again m t → Usual s (again_by removal again) t
again_answer (Ok x) again s m t first counted = usual_from Unit (done_by again) s m t first.counts (counted_done again m t counted)
again_answer (Err d) (Err NotDir) s m t first counted = blocked_usual Unit d s m t first counted.counts
again_answer (Err d) (Ok x) s m t first counted = usual_from Unit (Ok x) s m t first.counts (counted_done (Ok x) m t counted)
again_answer (Err d) (Err NotFound) s m t first counted = usual_from Unit (done_by (Err NotFound)) s m t first.counts (counted_done (Err NotFound) m t counted)
again_answer (Err d) (Err Exists) s m t first counted = usual_from Unit (done_by (Err Exists)) s m t first.counts (counted_done (Err Exists) m t counted)
again_answer (Err d) (Err IsDir) s m t first counted = usual_from Unit (done_by (Err IsDir)) s m t first.counts (counted_done (Err IsDir) m t counted)
again_answer (Err d) (Err NotEmpty) s m t first counted = usual_from Unit (done_by (Err NotEmpty)) s m t first.counts (counted_done (Err NotEmpty) m t counted)
again_answer (Err d) (Err Failed) s m t first counted = usual_from Unit (done_by (Err Failed)) s m t first.counts (counted_done (Err Failed) m t counted)
again_answer (Err d) (Err NoMemory) s m t first counted = usual_from Unit (done_by (Err NoMemory)) s m t first.counts (counted_done (Err NoMemory) m t counted)

again_usual : (dir : Bool) (at into : Names) (s : DiskState) (r : Result Unit FsError) (t : DiskState) → MovesAgain dir at into s r t → Usual s r t
again_usual false at into s r t (is, same) = refused_at_once Unit fs.Forbidden r s t is same refl (λ f. cc)
again_usual true at into s r t (removal, m, removes, answer, moves, is) = rw is (again_answer removal answer s m t removes.asks.counted moves.asks.counted)

-- what follows a look behind a move that met what is no directory
looked_again : (found : Result Meta DiskError) (at into : Names) (s k : DiskState) (r : Result Unit FsError) (t : DiskState) → IsCounted found s k → AfterNotDir found at into k r t → Usual s r t
looked_again (Ok m) at into s k r t counted after = usual_from Unit r s k t counted.counts (again_usual (is_dir m.kind) at into k r t after)
looked_again (Err d) at into s k r t counted (is, same) = rw (is, same) (blocked_usual Meta d s k k counted (omega arith))

-- what follows a first move that was asked between two states
moved_usual : (answer : Result Unit DiskError) (at into : Names) (s m : DiskState) (r : Result Unit FsError) (t : DiskState) → IsCounted answer s m → AfterMove answer at into m r t → Usual s r t
moved_usual (Ok x) at into s m r t counted (is, same) = rw (is, same) (counted_done (Ok x) s m counted)
moved_usual (Err NotDir) at into s m r t counted (look, k, metas, again) =
    usual_from Unit r s m t counted.counts (looked_again look at into m k r t metas.asks.counted again)
moved_usual (Err NotFound) at into s m r t counted (is, same) = rw (is, same) (counted_done (Err NotFound) s m counted)
moved_usual (Err Exists) at into s m r t counted (is, same) = rw (is, same) (counted_done (Err Exists) s m counted)
moved_usual (Err IsDir) at into s m r t counted (is, same) = rw (is, same) (counted_done (Err IsDir) s m counted)
moved_usual (Err NotEmpty) at into s m r t counted (is, same) = rw (is, same) (counted_done (Err NotEmpty) s m counted)
moved_usual (Err Failed) at into s m r t counted (is, same) = rw (is, same) (counted_done (Err Failed) s m counted)
moved_usual (Err NoMemory) at into s m r t counted (is, same) = rw (is, same) (counted_done (Err NoMemory) s m counted)

move_usual : (p q : Place) (from to : WebPath) (r : Result Unit FsError) → AsksToMove p from to r q → Usual p.disk r q.disk
move_usual p q from to r moves =
    both_usual p q from to MovesAt r
    (λ at into k (answer, m, renames, t, after, ends).
    let same : q.disk ≡ t = ap (λ (x : Place). x.disk) ends in
    subst (λ x. Usual k.disk r x) (sym same) (moved_usual answer at into k.disk m r t renames.asks.counted after)) moves

-- whatever is gathered from a listing
with_usual : (builder : Option BuilderState) (r : Result ListingState FsError) (s t : DiskState) → RefusedUsually s r t → RefusedUsually s (dir_with builder r) t
with_usual builder (Ok d) s t usual = tt
with_usual builder (Err e) s t usual = usual

reading_usual : (builder : Option BuilderState) (at : Names) (how : ReadDirMeta) (s : DiskState) (reading : Result ListingState FsError) (t : DiskState) → Begins s at how reading t → Usual s (dir_with builder reading) t
reading_usual builder at how s reading t (answer, lists, is) =
    subst (λ (r : Result ListingState FsError). Usual s (dir_with builder r) t) (sym is)
    (record { counts = lists.counted.counts; refused = with_usual builder (dir_of at how answer) s t (dir_usual at how answer s t lists.counted) })

begun_usual : (b : Bool) (at : Names) (how : ReadDirMeta) (s : DiskState) (r : Result LocalFsReadDir FsError) (t : DiskState) → BeginsDir b at how s r t → Usual s r t
begun_usual false at how s r t (reading, begins, whole) = subst (λ r. Usual s r t) (sym whole) (reading_usual None at how s reading t begins)
begun_usual true at how s r t (inl (starved, same)) = rw (starved, same) (record { counts = omega arith; refused = (refl, λ e. cc) })
begun_usual true at how s r t (inr (b, m, (found, metas, is_b), reading, begins, whole)) =
    usual_from LocalFsReadDir r s m t metas.asks.counts (subst (λ r. Usual m r t) (sym whole) (reading_usual (Some b) at how m reading t begins))

begin_usual : (p q : Place) (path : WebPath) (how : ReadDirMeta) (r : Result LocalFsReadDir FsError) → Finds p path.names (BeginsAt how) r q → Usual p.disk r q.disk
begin_usual p q path how r finds =
    finds_usual LocalFsReadDir p q path.names (BeginsAt how) r
    (λ at k (t, begins, ends). subst (λ x. Usual k.disk r x) (sym (ap (λ (x : Place). x.disk) ends)) (begun_usual (gathers k.ways.macos how) at how k.disk r t begins)) finds

-- ---- listings: what is kept of refusals that were met while a batch was read

-- such a refusal, and a failure only where the count of faults rose
abbrev Refusal : ℕ → ℕ → FsError → Type 0
Refusal from now e = (is_usual e ≡ true) × (e ≡ fs.GeneralFailure → Rose from now)

abbrev Kept : ℕ → ℕ → EntryMeta → Type 0
Kept from now (Read (Ok m)) = Unit {0}
Kept from now (Read (Err e)) = Refusal from now e
Kept from now (At path) = Unit {0}

record Sane (from now : ℕ) (k : ListingState) : Type 0 where
  counts : from ≤ now
  refused : IfSome k.refused (Refusal from now)
  each : AllByRecursion (λ entry. Kept from now entry.meta) k.batch

refusal_later : (from a b : ℕ) (e : FsError) → a ≤ b → Refusal from a e → Refusal from b e
refusal_later from a b e le (usual, rose) = (usual, λ f. rose_on from a b (rose f) le)

refused_later : (from a b : ℕ) (o : Option FsError) → a ≤ b → IfSome o (Refusal from a) → IfSome o (Refusal from b)
refused_later from a b None le is = tt
refused_later from a b (Some e) le is = refusal_later from a b e le is

kept_later : (from a b : ℕ) (meta : EntryMeta) → a ≤ b → Kept from a meta → Kept from b meta
kept_later from a b (Read (Ok m)) le kept = tt
kept_later from a b (Read (Err e)) le kept = refusal_later from a b e le kept
kept_later from a b (At path) le kept = tt

all_kept_later : (from a b : ℕ) (batch : List LocalFsDirEntry) → a ≤ b → AllByRecursion (λ (entry : LocalFsDirEntry). Kept from a entry.meta) batch → AllByRecursion (λ (entry : LocalFsDirEntry). Kept from b entry.meta) batch
all_kept_later from a b [] le all = tt
all_kept_later from a b (entry ∷ batch) le all = (kept_later from a b entry.meta le all.0, all_kept_later from a b batch le all.1)

all_kept_push : (from now : ℕ) (batch : List LocalFsDirEntry) (x : LocalFsDirEntry) → AllByRecursion (λ (entry : LocalFsDirEntry). Kept from now entry.meta) batch → Kept from now x.meta
    → AllByRecursion (λ (entry : LocalFsDirEntry). Kept from now entry.meta) (batch ++ x ∷ [])
all_kept_push from now [] x all last = (last, tt)
all_kept_push from now (entry ∷ batch) x all last = (all.0, all_kept_push from now batch x all.1 last)

sane_later : (from a b : ℕ) (k : ListingState) → a ≤ b → Sane from a k → Sane from b k
sane_later from a b k le sane = record {
  counts = (let first = sane.counts in omega (arith, first, le));
  refused = refused_later from a b k.refused le sane.refused;
  each = all_kept_later from a b k.batch le sane.each;
}

-- what a disk's refusal is
refusal_of : (T : Type 0) (from : ℕ) (d : DiskError) (s t : DiskState) → from ≤ s.faults → IsCounted {T = T} (Err d) s t → Refusal from t.faults (fs_error_of d)
refusal_of T from d s t le counted = (usual_error d, λ e. rose_from from s.faults t.faults le (counted.rose (ap Err (failing_error d e))))

said_kept : (follows : Bool) (from : ℕ) (path : Names) (said : Result Meta DiskError) (answer : Result LocalFsMetaData FsError) (s t : DiskState) → from ≤ s.faults → MetasBy follows s path said t
    → answer ≡ said_by said → Kept from t.faults (Read answer)
said_kept follows from path (Ok m) answer s t le metas is = rw is tt
said_kept follows from path (Err d) answer s t le metas is = rw is (refusal_of Meta from d s t le metas.asks.counted)

read_kept : (follows : Bool) (from : ℕ) (meta : EntryMeta) (path : Names) (s t : DiskState) → from ≤ s.faults → WasRead follows meta s path t → Kept from t.faults meta
read_kept follows from (Read answer) path s t le (said, metas, is) = said_kept follows from path said answer s t le metas is
read_kept follows from (At there) path s t le read = absurd read

asked_kept : (from : ℕ) (meta : EntryMeta) (path : Names) (s t : DiskState) → IsKnown meta wanted.None s path t → Kept from t.faults meta
asked_kept from (Read answer) path s t asked = absurd asked
asked_kept from (At there) path s t asked = tt

known_kept : (from : ℕ) (meta : EntryMeta) (how : ReadDirMeta) (path : Names) (s t : DiskState) → from ≤ s.faults → IsKnown meta how s path t → Kept from t.faults meta
known_kept from meta wanted.Data path s t le known = read_kept true from meta path s t le known
known_kept from meta wanted.DataSymlink path s t le known = read_kept false from meta path s t le known
known_kept from meta wanted.None path s t le known = asked_kept from meta path s t known

-- a refusal is noted
noted : (from : ℕ) (f : FsError) (over : Bool) (k e : ListingState) (now : ℕ) → from ≤ now → Refusal from now f → AllByRecursion (λ (entry : LocalFsDirEntry). Kept from now entry.meta) k.batch
    → e ≡ record k { refused = Some f; over = over } → Sane from now e
noted from f over k e now le refusal each is = rw is (record { counts = le; refused = refusal; each = each })

failed_sane : (from : ℕ) (d : DiskError) (over : Bool) (s m t : DiskState) (k e : ListingState) → ListsOn s k.lister.0 (Err d) m → Sane from s.faults k → t ≡ m → e ≡ record k { refused = Some (fs_error_of d); over = over }
    → Sane from t.faults e
failed_sane from d over s m t k e on sane same is =
    let later = sane_later from s.faults m.faults k on.counted.counts sane in
    subst (λ (x : DiskState). Sane from x.faults e) (sym same)
    (noted from (fs_error_of d) over k e m.faults later.counts (refusal_of (Option (List ℕ)) from d s m sane.counts on.counted) later.each is)

given_sane : (from : ℕ) (name : List ℕ) (given : Result LocalFsDirEntry FsError) (m t : DiskState) (k e : ListingState) → Sane from m.faults k → m.faults ≤ t.faults → GivesEntry name k.path k.wanted m given t → e ≡ with_given k given
    → Sane from t.faults e
given_sane from name (Ok entry) m t k e sane le (named, known) is =
    let later = sane_later from m.faults t.faults k le sane in
    rw is (record { counts = later.counts; refused = later.refused; each = all_kept_push from t.faults k.batch entry later.each (known_kept from entry.meta k.wanted (k.path ++ name ∷ []) m t sane.counts known) })
given_sane from name (Err f) m t k e sane le (none, keeps) is =
    let later = sane_later from m.faults t.faults k le sane in
    noted from f k.over k e t.faults later.counts (subst (Refusal from t.faults) (sym none) (refl, λ g. cc)) later.each is

name_sane : (from : ℕ) (name : List ℕ) (s m t : DiskState) (k e : ListingState) (given : Result LocalFsDirEntry FsError) → ListsOn s k.lister.0 (Ok (Some name)) m → Sane from s.faults k
    → GivesEntry name k.path k.wanted m given t → e ≡ with_given k given → m.faults ≤ t.faults → Sane from t.faults e
name_sane from name s m t k e given on sane gives is le =
    given_sane from name given m t k e (sane_later from s.faults m.faults k on.counted.counts sane) le gives is

reads_sane : (from : ℕ) (s t : DiskState) (k e : ListingState) → ReadsOne s k t e → Sane from s.faults k → Sane from t.faults e
reads_sane from s t k e (Ok (Some name), m, on, (given, gives, is)) sane =
    name_sane from name s m t k e given on sane gives is (given_keeps name k.path k.wanted m given t gives).counts
reads_sane from s t k e (Ok None, m, on, (same, is)) sane =
    let later = sane_later from s.faults m.faults k on.counted.counts sane in
    subst (λ (x : DiskState). Sane from x.faults e) (sym same) (rw is (record { counts = later.counts; refused = later.refused; each = later.each }))
reads_sane from s t k e (Err NoMemory, m, on, (same, is)) sane = failed_sane from NoMemory k.over s m t k e on sane same is
reads_sane from s t k e (Err Failed, m, on, (same, is)) sane = failed_sane from Failed true s m t k e on sane same is
reads_sane from s t k e (Err NotFound, m, on, (same, is)) sane = failed_sane from NotFound true s m t k e on sane same is
reads_sane from s t k e (Err Exists, m, on, (same, is)) sane = failed_sane from Exists true s m t k e on sane same is
reads_sane from s t k e (Err NotDir, m, on, (same, is)) sane = failed_sane from NotDir true s m t k e on sane same is
reads_sane from s t k e (Err IsDir, m, on, (same, is)) sane = failed_sane from IsDir true s m t k e on sane same is
reads_sane from s t k e (Err NotEmpty, m, on, (same, is)) sane = failed_sane from NotEmpty true s m t k e on sane same is

fills_sane : (from n : ℕ) (s t : DiskState) (k e : ListingState) → Fills n s k t e → Sane from s.faults k → Sane from t.faults e
fills_sane from n s t k e (full a d) sane = sane
fills_sane from n s t k e (ended i a d over) sane = sane
fills_sane from n s t k e (more i a m b d f g still reads fills) sane = fills_sane from i m b f g fills (reads_sane from a m d f reads sane)

refills_sane : (from : ℕ) (batch : List LocalFsDirEntry) (s t : DiskState) (k e : ListingState) → Refills batch s k t e → Sane from s.faults k → Sane from t.faults e
refills_sane from [] s t k e fills sane = fills_sane from 256 s t k e fills sane
refills_sane from (entry ∷ batch) s t k e (same, is) sane = rw (same, is) sane

-- what a listing answers, and what it leaves
record Given (from now : ℕ) (r : Result (Option LocalFsDirEntry) FsError) (e : ListingState) : Type 0 where
  sane : Sane from now e
  kept : (entry : LocalFsDirEntry) → r ≡ Ok (Some entry) → Kept from now entry.meta
  refused : (f : FsError) → r ≡ Err f → Refusal from now f

gives_sane : (from now : ℕ) (batch : List LocalFsDirEntry) (refused : Option FsError) (k : ListingState) (r : Result (Option LocalFsDirEntry) FsError) (e : ListingState) → k.batch ≡ batch → k.refused ≡ refused → Sane from now k
    → Gives batch refused k r e → Given from now r e
gives_sane from now (x ∷ batch) refused k r e first none sane (is, ends) =
    let all : Kept from now x.meta × AllByRecursion (λ (entry : LocalFsDirEntry). Kept from now entry.meta) batch = subst (AllByRecursion (λ (entry : LocalFsDirEntry). Kept from now entry.meta)) first sane.each in
    record {
      sane = rw ends (record { counts = sane.counts; refused = sane.refused; each = all.1 });
      kept = λ entry given. subst (λ (y : LocalFsDirEntry). Kept from now y.meta) (same_entry x entry (sym is ∙ given)) all.0;
      refused = λ f given. (let never : Ok (Some x) ≡ Err f = sym is ∙ given in cc);
    }
gives_sane from now [] (Some g) k r e first none sane (is, ends) = record {
  sane = rw ends (record { counts = sane.counts; refused = tt; each = sane.each });
  kept = λ entry given. (let never : Err g ≡ Ok (Some entry) = sym is ∙ given in cc);
  refused = λ f given. (let same : g ≡ f = (let h : Err g ≡ Err f = sym is ∙ given in cc) in subst (Refusal from now) same (subst (λ o. IfSome o (Refusal from now)) none sane.refused));
}
gives_sane from now [] None k r e first none sane (is, ends) = record {
  sane = subst (Sane from now) (sym ends) sane;
  kept = λ entry given. (let never : Ok None ≡ Ok (Some entry) = sym is ∙ given in cc);
  refused = λ f given. (let never : Ok None ≡ Err f = sym is ∙ given in cc);
}

next_sane : (from : ℕ) (s t : DiskState) (k e : ListingState) (r : Result (Option LocalFsDirEntry) FsError) → NextEntry s k r t e → Sane from s.faults k → Given from t.faults r e
next_sane from s t k e r (f, refills, gives) sane = gives_sane from t.faults f.batch f.refused f r e refl refl (refills_sane from k.batch s t k f refills sane) gives

pub next_entry_counts : (s t : DiskState) (k e : ListingState) (r : Result (Option LocalFsDirEntry) FsError) → NextEntry s k r t e → s.faults ≤ t.faults
next_entry_counts s t k e r (f, refills, gives) = refills_counts k.batch s t k f refills

refusal_usual : (T : Type 0) (r : Result T FsError) (s t : DiskState) → s.faults ≤ t.faults → ((f : FsError) → r ≡ Err f → Refusal s.faults t.faults f) → Usual {T = T} s r t
refusal_usual T (Ok x) s t le refused = record { counts = le; refused = tt }
refusal_usual T (Err f) s t le refused = record { counts = le; refused = refused f refl }

-- what a local store's listing answers, and what it leaves
follow_sane : (from : ℕ) (builder : Option BuilderState) (given : Result (Option LocalFsDirEntry) FsError) (now : Moment) (p : Place) (d : LocalFsReadDir) (r : Result (Option LocalFsDirEntry) FsError) (q : Place) (e : LocalFsReadDir)
    → AfterNext builder given now p d r q e → Given from p.disk.faults given d.reading → Given from q.disk.faults r e.reading
follow_sane from None given now p d r q e (is, same, whole) g =
    subst (λ (x : Place). Given from x.disk.faults r e.reading) (sym same) (subst (λ (x : LocalFsReadDir). Given from p.disk.faults r x.reading) (sym whole) (subst (λ r. Given from p.disk.faults r d.reading) (sym is) g))
follow_sane from (Some b) (Ok (Some entry)) now p d (Ok found) q e (same, (is, whole)) g =
    subst (λ (x : Place). Given from x.disk.faults (Ok found) e.reading) (sym same)
    (subst (λ (x : LocalFsReadDir). Given from p.disk.faults (Ok found) x.reading) (sym whole) (subst (λ f. Given from p.disk.faults (Ok f) d.reading) (sym is) g))
follow_sane from (Some b) (Ok (Some entry)) now p d (Err f) q e (same, (is, whole)) g =
    subst (λ (x : Place). Given from x.disk.faults (Err f) e.reading) (sym same)
    (subst (λ (x : LocalFsReadDir). Given from p.disk.faults (Err f) x.reading) (sym whole) (starved_given f is))
  where
    starved_given : (f : FsError) → f ≡ fs.NoMemory → Given from p.disk.faults (Err f) (stopped d.reading)
    starved_given f is = record {
      sane = record { counts = g.sane.counts; refused = tt; each = tt };
      kept = λ entry given. cc;
      refused = λ h same. subst (Refusal from p.disk.faults) (let e : f ≡ h = cc in sym is ∙ e) (refl, λ never. cc);
    }
follow_sane from (Some b) (Ok None) now p d r q e (sealed, c, finishes, ways, is, whole) g =
    let le = (after_keeps (Some b) (Ok None) now p d r q e (sealed, c, finishes, ways, is, whole)).counts in
    let sane = sane_later from p.disk.faults q.disk.faults d.reading le g.sane in
    subst (λ (x : LocalFsReadDir). Given from q.disk.faults r x.reading) (sym whole) (subst (λ r. Given from q.disk.faults r d.reading) (sym is) (ended sane sealed))
  where
    ended : Sane from q.disk.faults d.reading → (sealed : Result Unit Starved) → Given from q.disk.faults (at_end sealed) d.reading
    ended sane (Ok x) = record { sane = sane; kept = λ entry given. cc; refused = λ f given. cc }
    ended sane (Err x) = record { sane = sane; kept = λ entry given. cc; refused = λ f given. subst (Refusal from q.disk.faults) (let e : fs.NoMemory ≡ f = cc in e) (refl, λ never. cc) }
follow_sane from (Some b) (Err f) now p d r q e (is, same, whole) g =
    subst (λ (x : Place). Given from x.disk.faults r e.reading) (sym same) (subst (λ (x : LocalFsReadDir). Given from p.disk.faults r x.reading) (sym whole) (subst (λ r. Given from p.disk.faults r d.reading) (sym is) g))

dir_sane : (from : ℕ) (s t : DiskState) (k e : LocalFsReadDir) (r : Result (Option LocalFsDirEntry) FsError) → Next s k r t e → Sane from s.faults k.reading → Given from t.faults r e.reading
dir_sane from s t k e r n sane =
    subst (λ (x : DiskState). Given from x.faults r e.reading) n.disk
    (follow_sane from k.builder n.given n.now n.before (record k { reading = n.reading }) r n.after e n.follows
    (subst (λ (x : DiskState). Given from x.faults n.given n.reading) (sym n.start) (next_sane from s n.middle k.reading n.reading n.given n.first sane)))

dir_counts : (s t : DiskState) (k e : LocalFsReadDir) (r : Result (Option LocalFsDirEntry) FsError) → Next s k r t e → s.faults ≤ t.faults
dir_counts s t k e r n =
    let first = next_entry_counts s n.middle k.reading n.reading n.given n.first in
    let more = (after_keeps k.builder n.given n.now n.before (record k { reading = n.reading }) r n.after e n.follows).counts in
    omega (arith, first, more, ap (λ (x : DiskState). x.faults) n.start, ap (λ (x : DiskState). x.faults) n.disk)

-- a listing that was just begun
begun_sane : (p q : Place) (path : WebPath) (how : ReadDirMeta) (l : LocalFsReadDir) → Finds p path.names (BeginsAt how) (Ok l) q → Sane p.disk.faults q.disk.faults l.reading
begun_sane p q path how l finds = by finds
  where
    le : p.disk.faults ≤ q.disk.faults
    le = (begin_usual p q path how (Ok l) finds).counts

    of : (builder : Option BuilderState) (at : Names) (answer : Result Lister DiskError) → Ok l ≡ dir_with builder (dir_of at how answer) → Sane p.disk.faults q.disk.faults l.reading
    of builder at (Ok lister) is =
        let same : l.reading ≡ record { lister = lister; path = at; wanted = how; batch = []; refused = None; over = false } = cc in
        subst (Sane p.disk.faults q.disk.faults) (sym same) (record { counts = le; refused = tt; each = tt })
    of builder at (Err d) is = cc

    begun_so : (b : Bool) (at : Names) (m t : DiskState) → BeginsDir b at how m (Ok l) t → Sane p.disk.faults q.disk.faults l.reading
    begun_so false at m t (reading, (answer, lists, is), whole) = of None at answer (whole ∙ ap (dir_with None) is)
    begun_so true at m t (inl (starved, same)) = cc
    begun_so true at m t (inr (b, u, starts, reading, (answer, lists, is), whole)) = of (Some b) at answer (whole ∙ ap (dir_with (Some b)) is)

    by : Finds p path.names (BeginsAt how) (Ok l) q → Sane p.disk.faults q.disk.faults l.reading
    by (Err e, m, resolves, (is, ends)) = cc
    by (Ok at, m, resolves, (t, begins, ends)) = begun_so (gathers m.ways.macos how) at m.disk t begins

says_usual : (meta : EntryMeta) (r : Result Info FsError) (b m t : DiskState) → b.faults ≤ m.faults → Kept b.faults m.faults meta → Says meta m r t → Usual b r t
says_usual (Read (Ok answer)) r b m t le kept (is, same) = rw (is, same) (record { counts = le; refused = tt })
says_usual (Read (Err e)) r b m t le kept (is, same) = rw (is, same) (record { counts = le; refused = kept })
says_usual (At path) r b m t le kept (said, metas, is) = rw is (usual_from Info (said_info (said_by said)) b m t le (record { counts = metas.asks.counts; refused = of said metas.asks.counted }))
  where
    of : (answer : Result Meta DiskError) → IsCounted answer m t → RefusedUsually m (said_info (said_by answer)) t
    of (Ok x) counted = tt
    of (Err d) counted = refused_by Meta Info d m t counted

says_counts : (meta : EntryMeta) (s : DiskState) (r : Result Info FsError) (t : DiskState) → Says meta s r t → s.faults ≤ t.faults
says_counts (Read answer) s r t (is, same) = rw same (omega arith)
says_counts (At path) s r t (answer, metas, is) = metas.asks.counts

-- ---- writing

writing_usual : (h : ℕ) (s : DiskState) (bytes : List ℕ) (r : Result Unit FsError) (t : DiskState) → WritesAll h s bytes r t → Usual s r t
writing_usual h s bytes r t (nothing a) = record { counts = omega arith; refused = tt }
writing_usual h s bytes r t (write_refused a b from piece e chunk some writes) =
    record { counts = writes.asks.counts; refused = refused_by ℕ Unit e a b writes.asks.counted }
writing_usual h s bytes r t (writes_more a m b from piece n result chunk writes rest) =
    usual_from Unit result a m b writes.asks.counts (writing_usual h m (drop n from) result b rest)

-- ---- the store

module _ {S C : Type 0} (view : View S C LocalFsFile) (lists : Listings S C LocalFsReadDir LocalFsDirEntry) (writes : Writes LocalFsFile) (c : C) (ways : S → Ways) (memory : S → MemoryState) (moment : S → Moment)
    (local : IsLocalStore view lists writes ways memory moment) where
  abbrev at : S → Place
  at s = place view lists writes ways memory moment s

  next : (s t : S) (d e : LocalFsReadDir) (r : Result (Option LocalFsDirEntry) FsError) → lists.lists_on s d r t e → Next (view.state s) d r (view.state t) e
  next s t d e r on = next_local view lists writes ways memory moment local s t d e r on

  walk_sane : (from : ℕ) (n : S) (l : LocalFsReadDir) (answers : List Answered) (s : S) (k : LocalFsReadDir) → Sane from (view.state n).faults l.reading → Walked view lists n l answers s k → Sane from (view.state s).faults k.reading
  walk_sane from n l answers s k sane begun = sane
  walk_sane from n l answers s k sane (walks before a b o i j e r walk on said lent keeps) =
      let first = walk_sane from n l before a i sane walk in
      sane_later from (view.state b).faults (view.state o).faults j.reading keeps.counts (dir_sane from (view.state a) (view.state b) i j (Ok (Some e)) (next a b i j (Ok (Some e)) on) first).sane

  listed_sane : (b n s : S) (path : WebPath) (how : ReadDirMeta) (first l : LocalFsReadDir) (answers : List Answered) → lists.lists b c path how (Ok first) n → Walked view lists n first answers s l
      → Sane (view.state b).faults (view.state s).faults l.reading
  listed_sane b n s path how first l answers begins walk =
      walk_sane (view.state b).faults n first answers s l (begun_sane (at b) (at n) path how first (local.begins b n c path how (Ok first) begins).0) walk

  pub local_usual : RefusesUsually view lists writes c
  local_usual = record {
    looks = λ s t path r h. look_usual true (at s) (at t) path r (local.looks s t c path r h).0;
    looks_at_link = λ s t path r h. look_usual false (at s) (at t) path r (local.looks_at_link s t c path r h).0;
    opens = λ s t path how r h. opening_usual (at s) (at t) path how r (local.opens s t c path how r h).0;
    writes_file = λ s t f g bytes r h. writing_usual f.handle.0 (view.state s) bytes r (view.state t) (local.writes_file f g (view.state s) (view.state t) bytes r h.done).0;
    makes_dir = λ s t path r h. make_usual (at s) (at t) path r (local.makes_dir s t c path r h).0;
    removes_dir = λ s t path r h. take_dir_usual (at s) (at t) path r (local.removes_dir s t c path r h).0;
    removes_file = λ s t path r h. take_file_usual (at s) (at t) path r (local.removes_file s t c path r h).0;
    renames = λ s t from to r h. move_usual (at s) (at t) from to r (local.renames s t c from to r h).0;
    copies = λ s t from to r h. copy_usual (at s) (at t) from to r (local.copies s t c from to r h).0;
    begins = λ s t path how r h. begin_usual (at s) (at t) path how r (local.begins s t c path how r h).0;
    goes_on = λ b n s t path how first l k answers r begins walk h.
        (let sane = listed_sane b n s path how first l answers begins walk in
        let given = dir_sane (view.state b).faults (view.state s) (view.state t) l k r (next s t l k r h) sane in
        refusal_usual (Option LocalFsDirEntry) r (view.state b) (view.state t) given.sane.counts given.refused);
    says = λ b n s m t path how first l k answers e r begins walk on h.
        (let sane = listed_sane b n s path how first l answers begins walk in
        let given = dir_sane (view.state b).faults (view.state s) (view.state m) l k (Ok (Some e)) (next s m l k (Ok (Some e)) on) sane in
        says_usual e.meta r (view.state b) (view.state m) (view.state t) given.sane.counts (given.kept e refl) (local.says (view.state m) (view.state t) e r h));
    goes_counts = λ s t l k r h. dir_counts (view.state s) (view.state t) l k r (next s t l k r h);
    says_counts = λ s t e r h. says_counts e.meta (view.state s) r (view.state t) (local.says (view.state s) (view.state t) e r h);
    ends = λ s t l h. (let same = (local.ends s t l h).0.counts in omega (arith, same));
  }
