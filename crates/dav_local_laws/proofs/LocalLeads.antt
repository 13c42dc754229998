-- What a local store may remember after its calls was known before them, and it finds paths as before.
use Rattle.std.proofs.Common.{◌≡◌, ◌||◌, Bool, true, false, Option, None, Some, Result, Ok, Err, refl, sym, ap, subst, ◌∙◌}
use Rattle.dav_io.specs.declared.failure.NoMemory.{NoMemory as Starved}
use Rattle.dav_io.specs.declared.clock.Moment.{Moment}
use Rattle.dav_core.specs.declared.error.FsError.{FsError}
use Rattle.dav_core.specs.declared.handle.OpenOptions.{OpenOptions}
use Rattle.dav_core.specs.DavPath.{WebPath}
use Rattle.dav_core.specs.declared.handle.DiskError.{DiskError}
use Rattle.dav_core.specs.Disk.{DiskState, Opens}
use Rattle.dav_core.specs.Info.{Info}
use Rattle.dav_core.specs.Path.{Names}
use Rattle.dav_core.specs.Unchanged.{SameBesidesOpens}
use Rattle.dav_io.proofs.ToldLemmas.{told_after}
use Rattle.dav_core.specs.Writing.{Copies, CreatesDir, RemovesDir, RemovesFile}
use Rattle.dav_store.specs.declared.entry.ReadDirMeta.{ReadDirMeta}
use Rattle.dav_store.specs.declared.entry.ReadDirMeta.TheVariants.{Data, DataSymlink}
use Rattle.dav_store.specs.Leads.{LeadsOn, ListedOn, begun as just_begun, goes_on as goes_further, says as says_on, none as by_none, looks as by_look, opens as by_open, unlisted as by_no_list, listed as by_list, lends as by_lend}
use Rattle.dav_store.proofs.Leading.{leads_world}
use Rattle.dav_store.specs.View.{Listings, View}
use Rattle.dav_walks.specs.Follows.{Reached}
use Rattle.dav_walks.specs.Follows as on
use Rattle.dav_walks.specs.Pouring.{Writes}
use Rattle.dav_model.specs.Rules.{Learns}
use Rattle.dav_model.specs.Finding.{has_slash, is_forbidden, is_virtual}
use Rattle.dav_memory.specs.Memory.{LearnsNothing, MemoryState}
use Rattle.dav_local.specs.declared.entry.LocalFsDirEntry.{LocalFsDirEntry}
use Rattle.dav_local.specs.declared.file.LocalFsFile.{LocalFsFile}
use Rattle.dav_local.specs.declared.ways.Ways.{Ways}
use Rattle.dav_local.specs.Calls.{AfterAbsent, Asks, AsksToCopy, AsksToMake, AsksToMove, AsksToTakeDir, AsksToTakeFile, BeginsAt, Finds, FindsBoth, IsOpening, Looks, LooksAt, MovesAt, Place, TellsAbsent, Unless, asks_memory, is_shut}
use Rattle.dav_local.specs.Files.{done_by, filed}
use Rattle.dav_local.specs.declared.gathering.LocalFsReadDir.{LocalFsReadDir}
use Rattle.dav_local.specs.Gathering.{AfterNext}
use Rattle.dav_local.specs.Shown.{knowledge_of}
use Rattle.dav_local.specs.Ways.{rules_of}
use Rattle.dav_local.proofs.Memories.{learns_none, learns_then}
use Rattle.dav_local_laws.specs.LocalStore.{IsLocalStore, place}
use Rattle.dav_local_laws.proofs.LocalLearns.{learns_besides, learns_told_then, listing_learns, nothing_learned}

-- ---- memories

learns_same : (p q : Place) → q ≡ p → LearnsNothing p.memory q.memory
learns_same p q same = subst (λ (x : Place). LearnsNothing p.memory x.memory) (sym same) (learns_none p.memory)

-- ---- calls at a place

absent_learns : (p q : Place) (at : Names) (r : Result Bool Starved) → TellsAbsent p at r q → LearnsNothing p.memory q.memory
absent_learns p q at r tells = by (asks_memory p.ways at) refl
  where
    asked : (r : Result Bool Starved) → TellsAbsent p at r q → asks_memory p.ways at ≡ true → LearnsNothing p.memory q.memory
    asked (Ok absent) tells e = (tells.dots e).learns
    asked (Err x) tells e = learns_same p q tells.starved

    by : (b : Bool) → asks_memory p.ways at ≡ b → LearnsNothing p.memory q.memory
    by true e = asked r tells e
    by false e = learns_same p q (tells.plain e).0

after_absent : (absent : Result Bool Starved) (follows slash : Bool) (at : Names) (p q : Place) (r : Result Info FsError) → AfterAbsent absent follows slash at p r q → LearnsNothing p.memory q.memory
after_absent (Err x) follows slash at p q r (is, same) = learns_same p q same
after_absent (Ok true) follows slash at p q r (is, same) = learns_same p q same
after_absent (Ok false) follows slash at p q r (answer, t, metas, is, ends) = learns_same (record p { disk = t }) q ends

looked_learns : (follows slash : Bool) (at : Names) (p q : Place) (r : Result Info FsError) → LooksAt follows slash at p r q → LearnsNothing p.memory q.memory
looked_learns follows slash at p q r (absent, m, tells, after) =
    learns_then p.memory m.memory q.memory (absent_learns p m at absent tells) (after_absent absent follows slash at m q r after)

finds_learn : {T : Type 0} (p q : Place) (names : Names) (call : Names → Place → Result T FsError → Place → Type 0) (r : Result T FsError)
    → ((at : Names) (k : Place) → call at k r q → LearnsNothing k.memory q.memory) → Finds p names call r q → LearnsNothing p.memory q.memory
finds_learn p q names call r each (Ok at, m, resolves, after) = learns_then p.memory m.memory q.memory resolves.learns (each at m after)
finds_learn p q names call r each (Err e, m, resolves, (is, ends)) = subst (λ (x : Place). LearnsNothing p.memory x.memory) (sym ends) resolves.learns

unless_learns : {T : Type 0} (shut : Bool) (p q : Place) (call : Place → Result T FsError → Place → Type 0) (r : Result T FsError)
    → (call p r q → LearnsNothing p.memory q.memory) → Unless shut p call r q → LearnsNothing p.memory q.memory
unless_learns shut p q call r each run = by shut refl
  where
    by : (b : Bool) → shut ≡ b → LearnsNothing p.memory q.memory
    by true e = learns_same p q (run.forbidden e).1
    by false e = each (run.asked e)

-- a call of the disk alone
asks_learn : {A T : Type 0} (call : DiskState → Result A DiskError → DiskState → Type 0) (says : Result A DiskError → Result T FsError) (p q : Place) (r : Result T FsError)
    → Asks call says p r q → LearnsNothing p.memory q.memory
asks_learn call says p q r (answer, t, asked, is, ends) = learns_same (record p { disk = t }) q ends

look_learns : (follows : Bool) (p q : Place) (path : WebPath) (r : Result Info FsError) → Looks follows p path r q → LearnsNothing p.memory q.memory
look_learns follows p q path r looks = by (is_virtual (rules_of p.ways) path) refl
  where
    by : (b : Bool) → is_virtual (rules_of p.ways) path ≡ b → LearnsNothing p.memory q.memory
    by true e = learns_same p q (looks.empty e).1
    by false e =
        finds_learn p q path.names (LooksAt follows (has_slash p.ways.alone path)) r
        (λ at k looked. looked_learns follows (has_slash p.ways.alone path) at k q r looked) (looks.asked e)

open_learns : (p q : Place) (path : WebPath) (how : OpenOptions) (r : Result LocalFsFile FsError) → IsOpening p path how r q → LearnsNothing p.memory q.memory
open_learns p q path how r run =
    unless_learns (is_shut p.ways path) p q _ r (λ finds. finds_learn p q path.names _ r (λ at k asks. asks_learn (λ s answer t. Opens s at how answer t) filed k q r asks) finds) run

begin_learns : (p q : Place) (names : Names) (how : ReadDirMeta) (r : Result LocalFsReadDir FsError) → Finds p names (BeginsAt how) r q → LearnsNothing p.memory q.memory
begin_learns p q names how r finds = finds_learn p q names (BeginsAt how) r (λ at k (t, asked, ends). learns_same (record k { disk = t }) q ends) finds

make_learns : (p q : Place) (path : WebPath) (r : Result Unit FsError) → AsksToMake p path r q → LearnsNothing p.memory q.memory
make_learns p q path r run =
    unless_learns (is_forbidden (rules_of p.ways) path) p q _ r (λ finds. finds_learn p q path.names _ r (λ at k asks. asks_learn (λ s answer t. CreatesDir s at answer t) done_by k q r asks) finds) run

take_dir_learns : (p q : Place) (path : WebPath) (r : Result Unit FsError) → AsksToTakeDir p path r q → LearnsNothing p.memory q.memory
take_dir_learns p q path r finds = finds_learn p q path.names _ r (λ at k asks. asks_learn (λ s answer t. RemovesDir s at answer t) done_by k q r asks) finds

take_file_learns : (p q : Place) (path : WebPath) (r : Result Unit FsError) → AsksToTakeFile p path r q → LearnsNothing p.memory q.memory
take_file_learns p q path r run =
    unless_learns (is_shut p.ways path) p q _ r (λ finds. finds_learn p q path.names _ r (λ at k asks. asks_learn (λ s answer t. RemovesFile s at answer t) done_by k q r asks) finds) run

both_learn : (p q : Place) (from to : WebPath) (call : Names → Names → Place → Result Unit FsError → Place → Type 0) (r : Result Unit FsError)
    → ((at into : Names) (k : Place) → call at into k r q → LearnsNothing k.memory q.memory) → FindsBoth p from to call r q → LearnsNothing p.memory q.memory
both_learn p q from to call r each run =
    unless_learns (is_forbidden (rules_of p.ways) from || is_forbidden (rules_of p.ways) to) p q _ r
    (λ finds. finds_learn p q from.names _ r (λ at k rest. finds_learn k q to.names (call at) r (each at) rest) finds) run

copy_learns : (p q : Place) (from to : WebPath) (r : Result Unit FsError) → AsksToCopy p from to r q → LearnsNothing p.memory q.memory
copy_learns p q from to r both = both_learn p q from to _ r (λ at into k asks. asks_learn (λ s answer t. Copies s at into answer t) done_by k q r asks) both

move_learns : (p q : Place) (from to : WebPath) (r : Result Unit FsError) → AsksToMove p from to r q → LearnsNothing p.memory q.memory
move_learns p q from to r both = both_learn p q from to MovesAt r (λ at into k (answer, m, renames, t, after, ends). learns_same (record k { disk = t }) q ends) both

module _ {S C : Type 0} (view : View S C LocalFsFile) (lists : Listings S C LocalFsReadDir LocalFsDirEntry) (writes : Writes LocalFsFile) (ways : S → Ways) (memory : S → MemoryState) (moment : S → Moment)
    (local : IsLocalStore view lists writes ways memory moment) where
  abbrev at : S → Place
  at s = place view lists writes ways memory moment s

  -- How paths are found stays, and what is known was known before.
  abbrev pub Remains : S → S → Type 0
  Remains s t = (ways t ≡ ways s) × LearnsNothing (memory s) (memory t)

  remains_then : (s m t : S) → Remains s m → Remains m t → Remains s t
  remains_then s m t first then = (then.0 ∙ first.0, learns_then (memory s) (memory m) (memory t) first.1 then.1)

  lent_remains : (s t : S) → at t ≡ record (at s) { disk = view.state t } → Remains s t
  lent_remains s t same = (ap (λ (x : Place). x.ways) same, learns_same (record (at s) { disk = view.state t }) (at t) same)

  called_remains : (s m t : S) → Remains s m → ways t ≡ ways m → LearnsNothing (memory m) (memory t) → Remains s t
  called_remains s m t before stays learns = remains_then s m t before (stays, learns)

  -- Calls that write nothing leave how paths are found, and teach the memory what the told world has.
  abbrev pub RemainsTold : S → S → Type 0
  RemainsTold s t = (ways t ≡ ways s) × Learns (view.state s).told (knowledge_of (memory s)) (knowledge_of (memory t))

  told_then : (c : C) (s m t : S) → LeadsOn view lists c s m → RemainsTold s m → RemainsTold m t → RemainsTold s t
  told_then c s m t leads first then = (
    then.0 ∙ first.0,
    learns_told_then (view.state s).told (knowledge_of (memory s)) (knowledge_of (memory m)) (knowledge_of (memory t)) first.1
        (learns_besides (view.state m).told (view.state s).told (knowledge_of (memory m)) (knowledge_of (memory t))
        (λ w told. let (x, now, same) = told_after (view.state s).told (view.state m).told SameBesidesOpens w (leads_world view lists c s m leads) told in (x, now, same.tree)) then.1),
  )

  nothing_then : (c : C) (s m t : S) → LeadsOn view lists c s m → RemainsTold s m → ways t ≡ ways m → LearnsNothing (memory m) (memory t) → RemainsTold s t
  nothing_then c s m t leads first stays learns = told_then c s m t leads first (stays, nothing_learned (view.state m).told (memory m) (memory t) learns)

  pub local_remains : (c : C) (s t : S) → LeadsOn view lists c s t → RemainsTold s t
  local_remains c s t by_none = (refl, nothing_learned (view.state s).told (memory s) (memory s) (learns_none (memory s)))
  local_remains c s t (by_look m n path r before call same) =
      let (h, stays, timed, saved) = local.looks m n c path r call in
      nothing_then c s m n before (local_remains c s m before) stays (look_learns true (at m) (at n) path r h)
  local_remains c s t (by_open m n path r before call same) =
      let (h, stays, timed) = local.opens m n c path _ r call in
      nothing_then c s m n before (local_remains c s m before) stays (open_learns (at m) (at n) path _ r h)
  local_remains c s t (by_no_list m n path e before call same) =
      let (h, stays, timed) = local.begins m n c path Data (Err e) call in
      nothing_then c s m n before (local_remains c s m before) stays (begin_learns (at m) (at n) path.names Data (Err e) h)
  local_remains c s t (by_list m n path before through same) =
      told_then c s m n before (local_remains c s m before) (listing_learns view lists writes ways memory moment local m n c path through)
  local_remains c s t (by_lend m n before call same) =
      let (stays, learns) = lent_remains m n (local.lends m n call) in
      nothing_then c s m n before (local_remains c s m before) stays learns

  -- ---- calls that write

  -- A listing that gathers nothing teaches nothing.
  next_plain : (m n : S) (l k : LocalFsReadDir) (r : Result (Option LocalFsDirEntry) FsError) → l.builder ≡ None → lists.lists_on m l r n k → Remains m n × (k.builder ≡ None)
  next_plain m n l k r none on =
      let (now, gives, here, timed) = local.goes_on m n l k r on in
      let (given, t, f, first, follows) = gives in
      let (is, same, whole) = subst (λ b. AfterNext b given now (record (at m) { disk = t }) (record l { reading = f }) r (at n) k) none follows in (
        (ap (λ (x : Place). x.ways) same, learns_same (record (at m) { disk = t }) (at n) same),
        ap (λ (d : LocalFsReadDir). d.builder) whole ∙ none,
      )

  listed_plain : (b : S) (first : LocalFsReadDir) (n : S) (l : LocalFsReadDir) → first.builder ≡ None → ListedOn view lists b first n l → Remains b n × (l.builder ≡ None)
  listed_plain b first n l none just_begun = ((refl, learns_none (memory b)), none)
  listed_plain b first n l none (goes_further m k i j r before on) =
      let (remains, still) = listed_plain b first m i none before in
      let (more, end) = next_plain m n i l r still on in
      (remains_then b m n remains more, end)
  listed_plain b first n l none (says_on m k o i j e r before on said lent keeps) =
      let (remains, still) = listed_plain b first m i none before in
      let (more, end) = next_plain m k i l (Ok (Some e)) still on in
      (remains_then b k n (remains_then b m k remains more) (lent_remains k n (local.lends k n lent)), end)

  begun_plain : (l : LocalFsReadDir) (p q : Place) (names : Names) → Finds p names (BeginsAt DataSymlink) (Ok l) q → l.builder ≡ None
  begun_plain l p q names (Err e, m, resolves, (is, ends)) = cc
  begun_plain l p q names (Ok at, m, resolves, (t, (Ok reading, begins, whole), ends)) = cc
  begun_plain l p q names (Ok at, m, resolves, (t, (Err e, begins, whole), ends)) = cc

  -- the same of calls that may write
  pub calls_remain : (c : C) (s t : S) → Reached view lists writes c s t → Remains s t
  calls_remain c s t on.here = (refl, learns_none (memory s))
  calls_remain c s t (on.looks m n path r before call) =
      let (h, stays, timed, saved) = local.looks m n c path r call in
      called_remains s m n (calls_remain c s m before) stays (look_learns true (at m) (at n) path r h)
  calls_remain c s t (on.looks_at_link m n path r before call) =
      let (h, stays, timed) = local.looks_at_link m n c path r call in
      called_remains s m n (calls_remain c s m before) stays (look_learns false (at m) (at n) path r h)
  calls_remain c s t (on.opens m n path how r before call) =
      let (h, stays, timed) = local.opens m n c path how r call in
      called_remains s m n (calls_remain c s m before) stays (open_learns (at m) (at n) path how r h)
  calls_remain c s t (on.writes_file m n f g bytes r before call) = remains_then s m n (calls_remain c s m before) (lent_remains m n (local.lends m n call.lent.store))
  calls_remain c s t (on.ends_file m n f before call) = remains_then s m n (calls_remain c s m before) (lent_remains m n (local.lends m n call.lent.store))
  calls_remain c s t (on.makes_dir m n path r before call) =
      let (h, stays, timed) = local.makes_dir m n c path r call in
      called_remains s m n (calls_remain c s m before) stays (make_learns (at m) (at n) path r h)
  calls_remain c s t (on.removes_dir m n path r before call) =
      let (h, stays, timed) = local.removes_dir m n c path r call in
      called_remains s m n (calls_remain c s m before) stays (take_dir_learns (at m) (at n) path r h)
  calls_remain c s t (on.removes_file m n path r before call) =
      let (h, stays, timed) = local.removes_file m n c path r call in
      called_remains s m n (calls_remain c s m before) stays (take_file_learns (at m) (at n) path r h)
  calls_remain c s t (on.renames m n from to r before call) =
      let (h, stays, timed) = local.renames m n c from to r call in
      called_remains s m n (calls_remain c s m before) stays (move_learns (at m) (at n) from to r h)
  calls_remain c s t (on.copies m n from to r before call) =
      let (h, stays, timed) = local.copies m n c from to r call in
      called_remains s m n (calls_remain c s m before) stays (copy_learns (at m) (at n) from to r h)
  calls_remain c s t (on.unlisted m n path e before call) =
      let (h, stays, timed) = local.begins m n c path DataSymlink (Err e) call in
      called_remains s m n (calls_remain c s m before) stays (begin_learns (at m) (at n) path.names DataSymlink (Err e) h)
  calls_remain c s t (on.listed m n path before through) =
      let (h, stays, timed) = local.begins m through.begin c path DataSymlink (Ok through.listing) through.begins in
      let begun_so = called_remains s m through.begin (calls_remain c s m before) stays (begin_learns (at m) (at through.begin) path.names DataSymlink (Ok through.listing) h) in
      let (remains, still) = listed_plain through.begin through.listing through.after through.over (begun_plain through.listing (at m) (at through.begin) path.names h) through.on in
      remains_then s through.after n (remains_then s through.begin through.after begun_so remains) (lent_remains through.after n (local.ends through.after n through.over through.ended).1)
