-- What a local store saves by its memory of absent names, and what it keeps there.
use Rattle.std.proofs.Common.{◌≡◌, ◌&&◌, ◌||◌, ◌==◌, ◌≤◌, inl, inr, ℕ, Bool, true, false, not, codes, List, [], ◌∷◌, ◌++◌, Option, None, Some, Result, Ok, Err, refl, sym, ap, subst, ◌∙◌, if◌then◌else◌, cond, arith}
use Rattle.std.proofs.lemmas.Bool.{eq-eqb}
use Rattle.std.specs.Map.{lookup}
use Rattle.std.specs.Option.{is_some, option_map_or}
use Rattle.dav_io.specs.Counts.{RefusedNothing}
use Rattle.dav_io.specs.declared.clock.Moment.{Moment}
use Rattle.dav_io.specs.declared.failure.NoMemory.{NoMemory as Starved}
use Rattle.dav_io.proofs.ToldLemmas.{told_after}
use Rattle.dav_io.proofs.Rising.{no_rise}
use Rattle.dav_core.specs.declared.error.FsError.{FsError}
use Rattle.dav_core.specs.declared.error.FsError.TheVariants as fs
use Rattle.dav_core.specs.declared.handle.DiskError.{DiskError}
use Rattle.dav_core.specs.declared.handle.Meta.{Meta}
use Rattle.dav_core.specs.declared.time.FileTime.{FileTime}
use Rattle.dav_core.specs.declared.tree.Row.{Row}
use Rattle.dav_core.specs.DavPath.{WebPath, last_name}
use Rattle.dav_core.specs.Disk.{DiskState, Metas}
use Rattle.dav_core.specs.Info.{Info}
use Rattle.dav_core.specs.Listing.{or_empty}
use Rattle.dav_core.specs.Path.{Names, parent_of, same_names}
use Rattle.dav_core.specs.Tree.{is_dir, is_linked, look}
use Rattle.dav_core.specs.Unchanged.{SameBesidesOpens}
use Rattle.dav_core.specs.World.{World}
use Rattle.dav_core.proofs.Plain.{names_same}
use Rattle.dav_store.specs.Files.{AsksOnce}
use Rattle.dav_store.specs.Members.{Answered, Walked, begun, goes}
use Rattle.dav_store.specs.View.{Listings, View}
use Rattle.dav_walks.specs.Pouring.{Writes}
use Rattle.dav_model.specs.Finding.{has_slash, is_virtual, or_walk}
use Rattle.dav_model.specs.Folds.{Name, dir_time, dir_time_of, is_dot}
use Rattle.dav_memory.specs.declared.sealed.Sealed.{Sealed}
use Rattle.dav_memory.specs.declared.sealed.Sealed.TheVariants.{Done, Last, NoMemory}
use Rattle.dav_memory.specs.Builder.{BuilderState, Finishes, Settles, TellsSealed, may_settle, time_found, with_name}
use Rattle.dav_memory.specs.Calls.{Denies, has_time}
use Rattle.dav_memory.specs.Entries.{is_time, one_time}
use Rattle.dav_memory.specs.declared.key.DuEntry.{DuEntry}
use Rattle.dav_memory.specs.Entries.{DotCache, concludes, dir_key, same_key, stands}
use Rattle.dav_memory.specs.Memory.{MemoryState, Negates}
use Rattle.dav_memory.proofs.Keys.{time_decides}
use Rattle.dav_local.specs.declared.entry.LocalFsDirEntry.{LocalFsDirEntry}
use Rattle.dav_local.specs.declared.file.LocalFsFile.{LocalFsFile}
use Rattle.dav_local.specs.declared.gathering.LocalFsReadDir.{LocalFsReadDir}
use Rattle.dav_local.specs.declared.ways.Ways.{Ways}
use Rattle.dav_local.specs.Calls.{AfterAbsent, Finds, LooksAt, TellsAbsent, asks_memory}
use Rattle.dav_local.specs.Gathering.{AfterNext, GivesNext, site_of}
use Rattle.dav_local.specs.Places.{Place}
use Rattle.dav_local.specs.Ways.{is_known, rules_of}
use Rattle.dav_local.specs.Listing.{ListingState, NextEntry}
use Rattle.dav_local.proofs.Keeping.{asked_keeps}
use Rattle.dav_local.proofs.Recalling.{no_refusal}
use Rattle.dav_local_laws.specs.LocalStore.{IsLocalStore, place}
use Rattle.dav_local_laws.specs.Sealed.{DeniedAtOnce, IsKnownAbsent, IsWhole, SealedWith, gathered}
use Rattle.dav_local_laws.proofs.LocalFollows.{next_entry_besides}
use Rattle.dav_local_laws.proofs.LocalUsual.{next_entry_counts}

-- Where names don't fold, the disk isn't asked where a path is found.
known_of : (ways : Ways) → ways.folds ≡ false → is_known ways ≡ true
known_of ways e = ap (λ b. is_some ways.alone || not b) e ∙ either (is_some ways.alone)
  where
    either : (b : Bool) → (b || true) ≡ true
    either true = refl
    either false = refl

-- ---- names that begin with `._`

-- Such a name is none of the two files that clients of macOS look for.
looked_for : (names : Names) (file : Name) → is_dot file ≡ false → is_dot (or_empty (last_name names)) ≡ true → same_names names (file ∷ []) ≡ false
looked_for names file other dot = by (same_names names (file ∷ [])) refl
  where
    by : (b : Bool) → same_names names (file ∷ []) ≡ b → b ≡ false
    by false e = refl
    by true e = (let never : true ≡ false = sym dot ∙ (ap (λ (n : Names). is_dot (or_empty (last_name n))) (names_same names (file ∷ []) e) ∙ other) in cc)

not_virtual : (ways : Ways) (path : WebPath) → is_dot (or_empty (last_name path.names)) ≡ true → is_virtual (rules_of ways) path ≡ false
not_virtual ways path dot =
    ap (λ b. ways.macos && (not path.slash && b))
    (ap (λ b. b || same_names path.names (codes ".ql_disablethumbnails" ∷ [])) (looked_for path.names (codes ".metadata_never_index") refl dot)
    ∙ looked_for path.names (codes ".ql_disablethumbnails") refl dot)
    ∙ none ways.macos (not path.slash)
  where
    none : (a b : Bool) → (a && (b && false)) ≡ false
    none true true = refl
    none true false = refl
    none false b = refl

-- ---- an absent name

time_itself : (t : FileTime) → is_time t (Some t) ≡ true
time_itself t = (time_decides t t).1 refl

dir_there : (row : Row) (time : FileTime) → dir_time_of (Ok row) ≡ Some time → (is_dir row.kind ≡ true) × (row.time ≡ time)
dir_there row time e = by (is_dir row.kind) e
  where
    by : (b : Bool) → cond b (Some row.time) None ≡ Some time → (b ≡ true) × (row.time ≡ time)
    by true e = (refl, (let same : row.time ≡ time = cc in same))
    by false e = cc

module _ (p : Place) (path : Names) (known : IsKnownAbsent p path) (t : DiskState) (nothing : RefusedNothing p.disk.faults t.faults) where
  -- the directory's row
  row_of : (found : Result Row DiskError) → dir_time_of found ≡ Some known.entry.time → (row : Row) × (found ≡ Ok row)
  row_of (Ok row) e = (row, refl)
  row_of (Err d) e = cc

  -- the directory is found with the entry's time
  found_so : (answer : Result Meta DiskError) → Metas p.disk (parent_of path) answer t → has_time known.entry.time answer ≡ true
  found_so (Ok meta) metas =
      let (row, looked, is) = metas.told known.world known.told known.clear in
      let (dir, time) = dir_there row known.entry.time (ap dir_time_of (sym looked) ∙ known.time) in
      let kind : is_dir meta.kind ≡ true = ap is_dir is.kind ∙ dir in
      let at : is_time known.entry.time meta.modified ≡ true = ap (is_time known.entry.time) (is.modified ∙ ap (λ x. Some x) time) ∙ time_itself known.entry.time in
      rw (kind, at) refl
  found_so (Err e) metas =
      let (row, there) = row_of (look known.world.tree (parent_of path)) known.time in
      absurd (no_refusal e (look known.world.tree (parent_of path)) row metas.only (metas.told known.world known.told known.clear) there
      (λ is. no_rise p.disk.faults t.faults nothing (metas.asks.rose (ap (λ x. Err x) is))))

  concluded : concludes known.cache.entries (parent_of path) (or_empty (last_name path)) known.entry.number ≡ true
  concluded =
      let here : stands known.cache.entries (dir_key (parent_of path)) known.entry.number ≡ true =
      ap (λ o. option_map_or (λ (e : DuEntry). e.number == known.entry.number) o false) known.holds ∙ eq-eqb known.entry.number known.entry.number refl in
      rw (here, known.absent) refl

  denied : (absent : Bool) (m : MemoryState) → Negates p.memory (parent_of path) (or_empty (last_name path)) p.disk absent m t → (absent ≡ true) × AsksOnce p.disk t
  denied absent m negates =
      let (d, now, denies) = told_after p.memory.dots m.dots
      (λ a b. Denies (lookup (same_key (dir_key (parent_of path))) a.entries) a (parent_of path) (or_empty (last_name path)) p.disk absent b t) known.cache negates.dots known.tells in
      by d (subst (λ o. Denies o known.cache (parent_of path) (or_empty (last_name path)) p.disk absent d t) known.holds denies)
    where
      by : (d : DotCache) → Denies (Some known.entry) known.cache (parent_of path) (or_empty (last_name path)) p.disk absent d t → (absent ≡ true) × AsksOnce p.disk t
      by d (answer, metas, is, new) = (is ∙ rw (found_so answer metas, concluded) refl, metas.asks.asked)

module _ {S C : Type 0} (view : View S C LocalFsFile) (lists : Listings S C LocalFsReadDir LocalFsDirEntry) (writes : Writes LocalFsFile) (ways : S → Ways) (memory : S → MemoryState) (moment : S → Moment)
    (local : IsLocalStore view lists writes ways memory moment) where
  abbrev at : S → Place
  at s = place view lists writes ways memory moment s

  memory_asked : (s : S) (path : WebPath) → (ways s).macos ≡ true → is_dot (or_empty (last_name path.names)) ≡ true → asks_memory (ways s) path.names ≡ true
  memory_asked s path macos dot = rw (macos, dot) refl

  -- what the memory tells, and what follows
  tells_once : (s t : S) (path : WebPath) (follows slash : Bool) (r : Result Info FsError) (absent : Result Bool Starved) (n : Place) → asks_memory (ways s) path.names ≡ true
      → RefusedNothing (view.state s).faults (view.state t).faults → IsKnownAbsent (at s) path.names → TellsAbsent (at s) path.names absent n → AfterAbsent absent follows slash path.names n r (at t) → DeniedAtOnce (at s) r (at t)
  tells_once s t path follows slash r (Err e) n asks nothing known tells (is, ends) = inr (is, ap (λ (x : Place). x.disk) (ends ∙ tells.starved))
  tells_once s t path follows slash r (Ok true) n asks nothing known tells (is, ends) =
      let ended : n.disk ≡ view.state t = ap (λ (x : Place). x.disk) (sym ends) in
      let (absent, once) = denied (at s) path.names known n.disk (subst (λ (x : DiskState). RefusedNothing (view.state s).faults x.faults) (sym ended) nothing) true n.memory (tells.dots asks) in
      inl (is, subst (λ x. AsksOnce (view.state s) x) ended once)
  tells_once s t path follows slash r (Ok false) n asks nothing known tells (answer, u, metas, is, ends) =
      let negates = tells.dots asks in
      let up : (view.state s).faults ≤ n.disk.faults = (asked_keeps (view.state s) n.disk negates.asks).counts in
      let on : n.disk.faults ≤ u.faults = metas.asks.counts in
      let end : u.faults ≡ (view.state t).faults = ap (λ (x : Place). x.disk.faults) (sym ends) in
      let so_far : RefusedNothing (view.state s).faults n.disk.faults = record {
        same = (let all = nothing.same in omega (arith, up, on, end, all));
        room = (let below = nothing.room in omega (arith, on, end, below));
      } in
      let (absent, once) = denied (at s) path.names known n.disk so_far false n.memory negates in
      cc

  pub absent_once : (s t : S) (c : C) (path : WebPath) (r : Result Info FsError) → view.looks s c path r t → (ways s).macos ≡ true → (ways s).folds ≡ false → (ways s).alone ≡ None
      → is_dot (or_empty (last_name path.names)) ≡ true → RefusedNothing (view.state s).faults (view.state t).faults → IsKnownAbsent (at s) path.names → DeniedAtOnce (at s) r (at t)
  absent_once s t c path r h macos folds alone dot nothing known = by ((local.looks s t c path r h).0.asked (not_virtual (ways s) path dot))
    where
      found : is_known (ways s) ≡ true
      found = known_of (ways s) folds

      by : Finds (at s) path.names (LooksAt true (has_slash (ways s).alone path)) r (at t) → DeniedAtOnce (at s) r (at t)
      by (Err e, m, resolves, (is, ends)) =
          let none : e ≡ fs.NoMemory = (let starved = resolves.starved found in cc) in
          inr (is ∙ ap Err none, ap (λ (x : Place). x.disk) (ends ∙ (resolves.known found).0))
      by (Ok end, m, resolves, looked) =
          let (same, here) = resolves.known found in
          let at_names : end ≡ path.names = here ∙ ap (λ a. or_walk a path.names) alone in
          let (absent, n, tells, after) = subst (λ z. LooksAt true (has_slash (ways s).alone path) z (at s) r (at t)) at_names (subst (λ k. LooksAt true (has_slash (ways s).alone path) end k r (at t)) same looked) in
          tells_once s t path true (has_slash (ways s).alone path) r absent n (memory_asked s path macos dot) nothing known tells after

  -- ---- what is gathered

  gathered_then : (answers : List Answered) (a : Answered) (b : BuilderState) → gathered (answers ++ a ∷ []) b ≡ with_name a.name (gathered answers b)
  gathered_then [] a b = refl
  gathered_then (x ∷ answers) a b = gathered_then answers a (with_name x.name b)

  entry_gathered : (m n : S) (l k : LocalFsReadDir) (e : LocalFsDirEntry) (b : BuilderState) → l.builder ≡ Some b → lists.lists_on m l (Ok (Some e)) n k → k.builder ≡ Some (with_name e.name b)
  entry_gathered m n l k e b is on =
      let (now, gives, here, timed) = local.goes_on m n l k (Ok (Some e)) on in
      let (given, t, f, first, follows) = gives in
      by now t f given (subst (λ x. AfterNext x given now (record (at m) { disk = t }) (record l { reading = f }) (Ok (Some e)) (at n) k) is follows)
    where
      by : (now : Moment) (t : DiskState) (f : ListingState) (given : Result (Option LocalFsDirEntry) FsError) → AfterNext (Some b) given now (record (at m) { disk = t }) (record l { reading = f }) (Ok (Some e)) (at n) k
          → k.builder ≡ Some (with_name e.name b)
      by now t f (Ok (Some entry)) (same, (found, whole)) =
          let one : e ≡ entry = cc in
          ap (λ (d : LocalFsReadDir). d.builder) whole ∙ ap (λ (x : LocalFsDirEntry). Some (with_name x.name b)) (sym one)
      by now t f (Ok None) (Ok x, d, finishes, stays, is, whole) = cc
      by now t f (Ok None) (Err x, d, finishes, stays, is, whole) = cc
      by now t f (Err x) (is, same, whole) = cc

  pub walk_gathers : (n : S) (l : LocalFsReadDir) (answers : List Answered) (o : S) (k : LocalFsReadDir) (b : BuilderState) → l.builder ≡ Some b → Walked view lists n l answers o k → k.builder ≡ Some (gathered answers b)
  walk_gathers n l answers o k b is begun = is
  walk_gathers n l answers o k b is (goes before m p q d j e r walk on said lent keeps) =
      let so_far = walk_gathers n l before m d b is walk in
      let next = entry_gathered m p d j e (gathered before b) so_far on in
      next ∙ (ap (λ (x : List ℕ). Some (with_name x (gathered before b))) (sym (local.called e)) ∙ ap (λ x. Some x) (sym (gathered_then before (record { name = lists.called e; meta = r }) b)))

-- ---- the seal

module _ (b : BuilderState) (time : FileTime) (now : Moment) where
  settled_time : (found : Option FileTime) → may_settle b ≡ Some time → found ≡ Some time → one_time (may_settle b) found ≡ Some time
  settled_time found settles is =
      ap (λ x. one_time x found) settles ∙ (ap (λ f. if is_time time f then Some time else None) is ∙ ap (λ t. if t then Some time else None) (time_itself time))

  unfinished : (fin fau : Bool) (before : Option FileTime) → (if fin || fau then None else before) ≡ Some time → fin ≡ false
  unfinished true fau before e = cc
  unfinished false fau before e = refl

  -- the directory is found with this time again
  found_again : (s t : DiskState) (w : World) (answer : Result Meta DiskError) → s.told ≡ Some w → is_linked w.tree b.dir ≡ false → dir_time w.tree b.dir ≡ Some time → RefusedNothing s.faults t.faults
      → Metas s b.dir answer t → time_found answer ≡ Some time
  found_again s t w (Ok meta) told clear there nothing metas =
      let (row, looked, is) = metas.told w told clear in
      let (dir, same) = dir_there row time (ap dir_time_of (sym looked) ∙ there) in
      let kind : is_dir meta.kind ≡ true = ap is_dir is.kind ∙ dir in
      ap (λ d. if d then meta.modified else None) kind ∙ (is.modified ∙ ap (λ x. Some x) same)
  found_again s t w (Err e) told clear there nothing metas =
      let (row, stands) = stands_there (look w.tree b.dir) there in
      absurd (no_refusal e (look w.tree b.dir) row metas.only (metas.told w told clear) stands (λ is. no_rise s.faults t.faults nothing (metas.asks.rose (ap (λ x. Err x) is))))
    where
      stands_there : (found : Result Row DiskError) → dir_time_of found ≡ Some time → (row : Row) × (found ≡ Ok row)
      stands_there (Ok row) e = (row, refl)
      stands_there (Err d) e = cc

  told_whole : (sealed : Sealed) (x : Unit) → TellsSealed {E = Starved} sealed (Ok x) → IsWhole sealed
  told_whole Done x tells = tt
  told_whole Last x tells = tt
  told_whole NoMemory x tells = cc

  pub end_sealed : (p q : Place) (k j : LocalFsReadDir) (w : World) → k.builder ≡ Some b → may_settle b ≡ Some time → p.disk.told ≡ Some w → is_linked w.tree b.dir ≡ false → dir_time w.tree b.dir ≡ Some time
      → RefusedNothing p.disk.faults q.disk.faults → GivesNext now p k (Ok None) q j → SealedWith p.memory b time now q.memory
  end_sealed p q k j w is settles told clear there nothing (given, u, f, first, follows) =
      by given first (subst (λ x. AfterNext x given now (record p { disk = u }) (record k { reading = f }) (Ok None) q j) is follows)
    where
      finished : (fin : Bool) (x : Unit) (c : BuilderState) (sealed : Result Unit Starved) → sealed ≡ Ok x → fin ≡ false → NextEntry p.disk k.reading (Ok None) u f
          → Finishes (λ m. m) fin (site_of b (record p { disk = u })) now sealed (site_of c q) → SealedWith p.memory b time now q.memory
      finished true x c sealed told_ok never first finishes = cc
      finished false x c sealed told_ok never first (answer, metas, same, seals) =
          let besides = next_entry_besides p.disk u k.reading f (Ok None) first in
          let (v, now_told, still) = told_after p.disk.told u.told SameBesidesOpens w besides told in
          let up : p.disk.faults ≤ u.faults = next_entry_counts p.disk u k.reading f (Ok None) first in
          let on : u.faults ≤ q.disk.faults = metas.asks.counts in
          let after : RefusedNothing u.faults q.disk.faults = record { same = (let all = nothing.same in omega (arith, up, on, all)); room = nothing.room } in
          let found = found_again u q.disk v answer now_told (ap (λ rows. is_linked rows b.dir) still.tree ∙ clear) (ap (λ rows. dir_time rows b.dir) still.tree ∙ there) after metas in
          let (result, seal, tells) = subst (λ o. Settles (λ m. m) o b now p.memory sealed q.memory) (settled_time (time_found answer) settles found) seals in
          (result, told_whole result x (subst (TellsSealed {E = Starved} result) told_ok tells), seal)

      by : (given : Result (Option LocalFsDirEntry) FsError) → NextEntry p.disk k.reading given u f → AfterNext (Some b) given now (record p { disk = u }) (record k { reading = f }) (Ok None) q j → SealedWith p.memory b time now q.memory
      by (Ok (Some entry)) first (same, (found, whole)) = cc
      by (Ok None) first (Ok x, c, finishes, stays, is_end, whole) = finished b.finished x c (Ok x) refl (unfinished b.finished b.faulted b.before settles) first finishes
      by (Ok None) first (Err x, c, finishes, stays, is_end, whole) = cc
      by (Err e) first (is_err, same, whole) = cc
