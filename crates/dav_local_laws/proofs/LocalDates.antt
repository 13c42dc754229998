-- What a local store remembers anew has its moment.
use Rattle.std.proofs.Common.{◌≡◌, ◌||◌, Bool, true, false, Option, None, Some, Result, Ok, Err, refl, sym, ap, subst, ◌∙◌}
use Rattle.dav_io.specs.declared.clock.Moment.{Moment}
use Rattle.dav_io.specs.declared.failure.NoMemory.{NoMemory as Starved}
use Rattle.dav_core.specs.declared.error.FsError.{FsError}
use Rattle.dav_core.specs.declared.handle.DiskError.{DiskError}
use Rattle.dav_core.specs.declared.handle.OpenOptions.{OpenOptions}
use Rattle.dav_core.specs.declared.time.FileTime.{FileTime}
use Rattle.dav_core.specs.DavPath.{WebPath}
use Rattle.dav_core.specs.Disk.{DiskState, Opens}
use Rattle.dav_core.specs.Info.{Info}
use Rattle.dav_core.specs.Path.{Names}
use Rattle.dav_core.specs.Writing.{Copies, CreatesDir, RemovesDir, RemovesFile}
use Rattle.dav_store.specs.declared.entry.ReadDirMeta.{ReadDirMeta}
use Rattle.dav_store.specs.declared.entry.ReadDirMeta.TheVariants.{Data, DataSymlink}
use Rattle.dav_store.specs.Leads.{LeadsOn, ListedOn, begun as just_begun, goes_on as goes_further, says as says_on, none as by_none, looks as by_look, opens as by_open, unlisted as by_no_list, listed as by_list, lends as by_lend}
use Rattle.dav_store.specs.View.{Listings, View}
use Rattle.dav_walks.specs.Follows.{Reached}
use Rattle.dav_walks.specs.Follows as on
use Rattle.dav_walks.specs.Pouring.{Writes}
use Rattle.dav_model.specs.Finding.{has_slash, is_forbidden, is_virtual}
use Rattle.dav_memory.specs.Builder.{BuilderState, Finishes, Settles, may_settle, time_found}
use Rattle.dav_memory.specs.Entries.{one_time}
use Rattle.dav_memory.specs.Memory.{MemoryState}
use Rattle.dav_local.specs.declared.entry.LocalFsDirEntry.{LocalFsDirEntry}
use Rattle.dav_local.specs.declared.file.LocalFsFile.{LocalFsFile}
use Rattle.dav_local.specs.declared.gathering.LocalFsReadDir.{LocalFsReadDir}
use Rattle.dav_local.specs.declared.ways.Ways.{Ways}
use Rattle.dav_local.specs.Calls.{AfterAbsent, Asks, AsksToCopy, AsksToMake, AsksToMove, AsksToTakeDir, AsksToTakeFile, BeginsAt, Finds, FindsBoth, IsOpening, Looks, LooksAt, MovesAt, Place, TellsAbsent, Unless, asks_memory, is_shut}
use Rattle.dav_local.specs.Files.{done_by, filed}
use Rattle.dav_local.specs.Gathering.{AfterNext, GivesNext, site_of}
use Rattle.dav_local.specs.Made.{MadeAt}
use Rattle.dav_local.specs.Ways.{rules_of}
use Rattle.dav_local.proofs.Dating.{made_negated, made_same, made_sealed, made_then}
use Rattle.dav_local_laws.specs.LocalStore.{IsLocalStore, place}

-- ---- calls at a place

same_made : (now : Moment) (p q : Place) → q ≡ p → MadeAt now p.memory q.memory
same_made now p q same = made_same now p.memory q.memory (ap (λ (x : Place). x.memory.paths) same) (ap (λ (x : Place). x.memory.dots) same)

absent_made : (now : Moment) (p q : Place) (at : Names) (r : Result Bool Starved) → TellsAbsent p at r q → MadeAt now p.memory q.memory
absent_made now p q at r tells = by (asks_memory p.ways at) refl
  where
    asked : (r : Result Bool Starved) → TellsAbsent p at r q → asks_memory p.ways at ≡ true → MadeAt now p.memory q.memory
    asked (Ok absent) tells e = made_negated now p.memory q.memory _ _ p.disk q.disk absent (tells.dots e)
    asked (Err x) tells e = same_made now p q tells.starved

    by : (b : Bool) → asks_memory p.ways at ≡ b → MadeAt now p.memory q.memory
    by true e = asked r tells e
    by false e = same_made now p q (tells.plain e).0

after_absent : (now : Moment) (absent : Result Bool Starved) (follows slash : Bool) (at : Names) (p q : Place) (r : Result Info FsError) → AfterAbsent absent follows slash at p r q → MadeAt now p.memory q.memory
after_absent now (Err x) follows slash at p q r (is, same) = same_made now p q same
after_absent now (Ok true) follows slash at p q r (is, same) = same_made now p q same
after_absent now (Ok false) follows slash at p q r (answer, t, metas, is, ends) = same_made now (record p { disk = t }) q ends

looked_made : (now : Moment) (follows slash : Bool) (at : Names) (p q : Place) (r : Result Info FsError) → LooksAt follows slash at p r q → MadeAt now p.memory q.memory
looked_made now follows slash at p q r (absent, m, tells, after) =
    made_then now p.memory m.memory q.memory (absent_made now p m at absent tells) (after_absent now absent follows slash at m q r after)

finds_made : {T : Type 0} (p q : Place) (names : Names) (call : Names → Place → Result T FsError → Place → Type 0) (r : Result T FsError)
    → ((at : Names) (k : Place) → k.moment ≡ p.moment → call at k r q → MadeAt p.moment k.memory q.memory) → Finds p names call r q → MadeAt p.moment p.memory q.memory
finds_made p q names call r each (Ok at, m, resolves, after) = made_then p.moment p.memory m.memory q.memory resolves.made (each at m resolves.moment after)
finds_made p q names call r each (Err e, m, resolves, (is, ends)) = subst (λ (x : Place). MadeAt p.moment p.memory x.memory) (sym ends) resolves.made

unless_made : {T : Type 0} (shut : Bool) (p q : Place) (call : Place → Result T FsError → Place → Type 0) (r : Result T FsError)
    → (call p r q → MadeAt p.moment p.memory q.memory) → Unless shut p call r q → MadeAt p.moment p.memory q.memory
unless_made shut p q call r each run = by shut refl
  where
    by : (b : Bool) → shut ≡ b → MadeAt p.moment p.memory q.memory
    by true e = same_made p.moment p q (run.forbidden e).1
    by false e = each (run.asked e)

-- a call of the disk alone
asks_made : {A T : Type 0} (now : Moment) (call : DiskState → Result A DiskError → DiskState → Type 0) (says : Result A DiskError → Result T FsError) (p q : Place) (r : Result T FsError)
    → Asks call says p r q → MadeAt now p.memory q.memory
asks_made now call says p q r (answer, t, asked, is, ends) = same_made now (record p { disk = t }) q ends

look_made : (follows : Bool) (p q : Place) (path : WebPath) (r : Result Info FsError) → Looks follows p path r q → MadeAt p.moment p.memory q.memory
look_made follows p q path r looks = by (is_virtual (rules_of p.ways) path) refl
  where
    by : (b : Bool) → is_virtual (rules_of p.ways) path ≡ b → MadeAt p.moment p.memory q.memory
    by true e = same_made p.moment p q (looks.empty e).1
    by false e =
        finds_made p q path.names (LooksAt follows (has_slash p.ways.alone path)) r
        (λ at k timed looked. looked_made p.moment follows (has_slash p.ways.alone path) at k q r looked) (looks.asked e)

open_made : (p q : Place) (path : WebPath) (how : OpenOptions) (r : Result LocalFsFile FsError) → IsOpening p path how r q → MadeAt p.moment p.memory q.memory
open_made p q path how r run =
    unless_made (is_shut p.ways path) p q _ r
    (λ finds. finds_made p q path.names _ r (λ at k timed asks. asks_made p.moment (λ s answer t. Opens s at how answer t) filed k q r asks) finds) run

begin_made : (p q : Place) (names : Names) (how : ReadDirMeta) (r : Result LocalFsReadDir FsError) → Finds p names (BeginsAt how) r q → MadeAt p.moment p.memory q.memory
begin_made p q names how r finds = finds_made p q names (BeginsAt how) r (λ at k timed (t, asked, ends). same_made p.moment (record k { disk = t }) q ends) finds

make_made : (p q : Place) (path : WebPath) (r : Result Unit FsError) → AsksToMake p path r q → MadeAt p.moment p.memory q.memory
make_made p q path r run =
    unless_made (is_forbidden (rules_of p.ways) path) p q _ r
    (λ finds. finds_made p q path.names _ r (λ at k timed asks. asks_made p.moment (λ s answer t. CreatesDir s at answer t) done_by k q r asks) finds) run

take_dir_made : (p q : Place) (path : WebPath) (r : Result Unit FsError) → AsksToTakeDir p path r q → MadeAt p.moment p.memory q.memory
take_dir_made p q path r finds =
    finds_made p q path.names _ r (λ at k timed asks. asks_made p.moment (λ s answer t. RemovesDir s at answer t) done_by k q r asks) finds

take_file_made : (p q : Place) (path : WebPath) (r : Result Unit FsError) → AsksToTakeFile p path r q → MadeAt p.moment p.memory q.memory
take_file_made p q path r run =
    unless_made (is_shut p.ways path) p q _ r
    (λ finds. finds_made p q path.names _ r (λ at k timed asks. asks_made p.moment (λ s answer t. RemovesFile s at answer t) done_by k q r asks) finds) run

both_made : (p q : Place) (from to : WebPath) (call : Names → Names → Place → Result Unit FsError → Place → Type 0) (r : Result Unit FsError)
    → ((at into : Names) (k : Place) → call at into k r q → MadeAt p.moment k.memory q.memory) → FindsBoth p from to call r q → MadeAt p.moment p.memory q.memory
both_made p q from to call r each run =
    unless_made (is_forbidden (rules_of p.ways) from || is_forbidden (rules_of p.ways) to) p q _ r
    (λ finds. finds_made p q from.names _ r (λ at k timed rest. second at k timed rest) finds) run
  where
    second : (at : Names) (k : Place) → k.moment ≡ p.moment → Finds k to.names (call at) r q → MadeAt p.moment k.memory q.memory
    second at k timed rest =
        subst (λ now. MadeAt now k.memory q.memory) timed
        (finds_made k q to.names (call at) r (λ into j later asks. subst (λ now. MadeAt now j.memory q.memory) (sym timed) (each at into j asks)) rest)

copy_made : (p q : Place) (from to : WebPath) (r : Result Unit FsError) → AsksToCopy p from to r q → MadeAt p.moment p.memory q.memory
copy_made p q from to r both = both_made p q from to _ r (λ at into k asks. asks_made p.moment (λ s answer t. Copies s at into answer t) done_by k q r asks) both

move_made : (p q : Place) (from to : WebPath) (r : Result Unit FsError) → AsksToMove p from to r q → MadeAt p.moment p.memory q.memory
move_made p q from to r both = both_made p q from to MovesAt r (λ at into k (answer, m, renames, t, after, ends). same_made p.moment (record k { disk = t }) q ends) both

-- ---- the end of a listing

settles_made : (o : Option FileTime) (b : BuilderState) (now : Moment) (old new : MemoryState) (r : Result Unit Starved) → Settles (λ (m : MemoryState). m) o b now old r new → MadeAt now old new
settles_made None b now old new r (ok, same) = made_same now old new (ap (λ (m : MemoryState). m.paths) same) (ap (λ (m : MemoryState). m.dots) same)
settles_made (Some time) b now old new r (sealed, seals, tells) = made_sealed now old new _ time b.names sealed seals

finish_made : (fin : Bool) (b c : BuilderState) (now : Moment) (p q : Place) (r : Result Unit Starved) → Finishes (λ (m : MemoryState). m) fin (site_of b p) now r (site_of c q) → MadeAt now p.memory q.memory
finish_made true b c now p q r (ok, builder, disk, memory) = made_same now p.memory q.memory (ap (λ (m : MemoryState). m.paths) memory) (ap (λ (m : MemoryState). m.dots) memory)
finish_made false b c now p q r (answer, metas, builder, settles) = settles_made (one_time (may_settle b) (time_found answer)) b now p.memory q.memory r settles

next_made : (now : Moment) (p q : Place) (d e : LocalFsReadDir) (r : Result (Option LocalFsDirEntry) FsError) → GivesNext now p d r q e → MadeAt now p.memory q.memory
next_made now p q d e r (given, t, f, first, follows) = by d.builder given follows
  where
    by : (b : Option BuilderState) (given : Result (Option LocalFsDirEntry) FsError) → AfterNext b given now (record p { disk = t }) (record d { reading = f }) r q e → MadeAt now p.memory q.memory
    by None given (is, same, whole) = same_made now (record p { disk = t }) q same
    by (Some b) (Ok (Some entry)) (same, gathers) = same_made now (record p { disk = t }) q same
    by (Some b) (Ok None) (sealed, c, finishes, stays, is, whole) = finish_made b.finished b c now (record p { disk = t }) q sealed finishes
    by (Some b) (Err x) (is, same, whole) = same_made now (record p { disk = t }) q same

module _ {S C : Type 0} (view : View S C LocalFsFile) (lists : Listings S C LocalFsReadDir LocalFsDirEntry) (writes : Writes LocalFsFile) (ways : S → Ways) (memory : S → MemoryState) (moment : S → Moment)
    (local : IsLocalStore view lists writes ways memory moment) where
  abbrev at : S → Place
  at s = place view lists writes ways memory moment s

  -- The moment stays, and what is remembered anew has it.
  abbrev pub Dated : S → S → Type 0
  Dated s t = (moment t ≡ moment s) × MadeAt (moment s) (memory s) (memory t)

  dated_then : (s m t : S) → Dated s m → Dated m t → Dated s t
  dated_then s m t first then = (then.0 ∙ first.0, made_then (moment s) (memory s) (memory m) (memory t) first.1 (subst (λ now. MadeAt now (memory m) (memory t)) first.0 then.1))

  dated_here : (s : S) → Dated s s
  dated_here s = (refl, made_same (moment s) (memory s) (memory s) refl refl)

  lent_dated : (s t : S) → at t ≡ record (at s) { disk = view.state t } → Dated s t
  lent_dated s t same = (ap (λ (x : Place). x.moment) same, same_made (moment s) (record (at s) { disk = view.state t }) (at t) same)

  next_dated : (m n : S) (l k : LocalFsReadDir) (r : Result (Option LocalFsDirEntry) FsError) → lists.lists_on m l r n k → Dated m n
  next_dated m n l k r on =
      let (now, gives, same, timed) = local.goes_on m n l k r on in
      (timed, subst (λ x. MadeAt x (memory m) (memory n)) same (next_made now (at m) (at n) l k r gives))

  listed_dated : (b : S) (first : LocalFsReadDir) (n : S) (l : LocalFsReadDir) → ListedOn view lists b first n l → Dated b n
  listed_dated b first n l just_begun = dated_here b
  listed_dated b first n l (goes_further m k i j r before on) = dated_then b m n (listed_dated b first m i before) (next_dated m n i l r on)
  listed_dated b first n l (says_on m k o i j e r before on said lent keeps) =
      dated_then b k n (dated_then b m k (listed_dated b first m i before) (next_dated m k i l (Ok (Some e)) on)) (lent_dated k n (local.lends k n lent))

  pub leads_dated : (c : C) (s t : S) → LeadsOn view lists c s t → Dated s t
  leads_dated c s t by_none = dated_here s
  leads_dated c s t (by_look m n path r before call same) =
      let (h, stays, timed, saved) = local.looks m n c path r call in
      dated_then s m n (leads_dated c s m before) (timed, look_made true (at m) (at n) path r h)
  leads_dated c s t (by_open m n path r before call same) =
      let (h, stays, timed) = local.opens m n c path _ r call in
      dated_then s m n (leads_dated c s m before) (timed, open_made (at m) (at n) path _ r h)
  leads_dated c s t (by_no_list m n path e before call same) =
      let (h, stays, timed) = local.begins m n c path Data (Err e) call in
      dated_then s m n (leads_dated c s m before) (timed, begin_made (at m) (at n) path.names Data (Err e) h)
  leads_dated c s t (by_list m n path before through same) =
      let (h, stays, timed) = local.begins m through.begin c path Data (Ok through.listing) through.begins in
      let begun_so = dated_then s m through.begin (leads_dated c s m before) (timed, begin_made (at m) (at through.begin) path.names Data (Ok through.listing) h) in
      dated_then s through.after n
      (dated_then s through.begin through.after begun_so (listed_dated through.begin through.listing through.after through.over through.on))
      (lent_dated through.after n (local.ends through.after n through.over through.ended).1)
  leads_dated c s t (by_lend m n before call same) = dated_then s m n (leads_dated c s m before) (lent_dated m n (local.lends m n call))

  -- the same of calls that may write
  pub calls_dated : (c : C) (s t : S) → Reached view lists writes c s t → Dated s t
  calls_dated c s t on.here = dated_here s
  calls_dated c s t (on.looks m n path r before call) =
      let (h, stays, timed, saved) = local.looks m n c path r call in
      dated_then s m n (calls_dated c s m before) (timed, look_made true (at m) (at n) path r h)
  calls_dated c s t (on.looks_at_link m n path r before call) =
      let (h, stays, timed) = local.looks_at_link m n c path r call in
      dated_then s m n (calls_dated c s m before) (timed, look_made false (at m) (at n) path r h)
  calls_dated c s t (on.opens m n path how r before call) =
      let (h, stays, timed) = local.opens m n c path how r call in
      dated_then s m n (calls_dated c s m before) (timed, open_made (at m) (at n) path how r h)
  calls_dated c s t (on.writes_file m n f g bytes r before call) = dated_then s m n (calls_dated c s m before) (lent_dated m n (local.lends m n call.lent.store))
  calls_dated c s t (on.ends_file m n f before call) = dated_then s m n (calls_dated c s m before) (lent_dated m n (local.lends m n call.lent.store))
  calls_dated c s t (on.makes_dir m n path r before call) =
      let (h, stays, timed) = local.makes_dir m n c path r call in
      dated_then s m n (calls_dated c s m before) (timed, make_made (at m) (at n) path r h)
  calls_dated c s t (on.removes_dir m n path r before call) =
      let (h, stays, timed) = local.removes_dir m n c path r call in
      dated_then s m n (calls_dated c s m before) (timed, take_dir_made (at m) (at n) path r h)
  calls_dated c s t (on.removes_file m n path r before call) =
      let (h, stays, timed) = local.removes_file m n c path r call in
      dated_then s m n (calls_dated c s m before) (timed, take_file_made (at m) (at n) path r h)
  calls_dated c s t (on.renames m n from to r before call) =
      let (h, stays, timed) = local.renames m n c from to r call in
      dated_then s m n (calls_dated c s m before) (timed, move_made (at m) (at n) from to r h)
  calls_dated c s t (on.copies m n from to r before call) =
      let (h, stays, timed) = local.copies m n c from to r call in
      dated_then s m n (calls_dated c s m before) (timed, copy_made (at m) (at n) from to r h)
  calls_dated c s t (on.unlisted m n path e before call) =
      let (h, stays, timed) = local.begins m n c path DataSymlink (Err e) call in
      dated_then s m n (calls_dated c s m before) (timed, begin_made (at m) (at n) path.names DataSymlink (Err e) h)
  calls_dated c s t (on.listed m n path before through) =
      let (h, stays, timed) = local.begins m through.begin c path DataSymlink (Ok through.listing) through.begins in
      let begun_so = dated_then s m through.begin (calls_dated c s m before) (timed, begin_made (at m) (at through.begin) path.names DataSymlink (Ok through.listing) h) in
      dated_then s through.after n
      (dated_then s through.begin through.after begun_so (listed_dated through.begin through.listing through.after through.over through.on))
      (lent_dated through.after n (local.ends through.after n through.over through.ended).1)
