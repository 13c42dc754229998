-- How often a local store asks its disk for a GET or HEAD: of a path that is found without the disk, and that the rules
-- for macOS don't touch, of one that the memory has or that stands as it is asked, and at most of any other.
use Rattle.std.proofs.Common.{◌≡◌, ◌≤◌, ◌+◌, ◌*◌, ◌⊎◌, inl, inr, ℕ, length, Bool, true, false, Option, None, Some, option_map, Result, Ok, Err, refl, sym, ap, subst, ◌∙◌, arith}
use Rattle.std.specs.List.{count_by}
use Rattle.std.specs.Map.{lookup}
use Rattle.dav_io.specs.Counts.{RefusedNothing, one_more}
use Rattle.dav_io.specs.declared.clock.Moment.{Moment}
use Rattle.dav_io.proofs.ToldLemmas.{told_after}
use Rattle.dav_core.specs.declared.error.FsError.{FsError}
use Rattle.dav_core.specs.declared.error.FsError.TheVariants as fs
use Rattle.dav_core.specs.DavPath.{WebPath, last_name}
use Rattle.dav_core.specs.Disk.{DiskState, Opens}
use Rattle.dav_core.specs.Info.{Info}
use Rattle.dav_core.specs.Listing.{or_empty}
use Rattle.dav_core.specs.Path.{Names}
use Rattle.dav_core.specs.Tree.{is_linked, look}
use Rattle.dav_core.specs.Unchanged.{Keeps, SameBesidesOpens}
use Rattle.dav_core.specs.World.{World}
use Rattle.dav_core.specs.Writing.{reading}
use Rattle.dav_store.specs.declared.entry.ReadDirMeta.TheVariants.{Data}
use Rattle.dav_store.specs.Files.{AsksOnce, AsksToGive}
use Rattle.dav_store.specs.View.{Listings, View}
use Rattle.dav_walks.specs.Pouring.{Writes}
use Rattle.dav_get.specs.Calls.{AsksAtMostFor, AsksFor, AsksToOpen}
use Rattle.dav_get.proofs.Asking.{asked_once}
use Rattle.dav_memory.specs.declared.entry.PathEntry.{PathEntry}
use Rattle.dav_memory.specs.Entries.{PathCache}
use Rattle.dav_memory.specs.Memory.{MemoryState}
use Rattle.dav_memory.specs.Trees.{same_path}
use Rattle.dav_model.specs.Calls.{AreNear, IsNear, IsWalkedBy, calls_from_root, calls_to_open, calls_to_seek, is_link_on_way, is_on_way}
use Rattle.dav_model.specs.Due.{OfItsPaths, Query}
use Rattle.dav_model.specs.Finding.{has_slash, is_localized, is_virtual, or_walk}
use Rattle.dav_model.specs.Folds.{fold_path, is_dot}
use Rattle.dav_model.proofs.Courses.{at_opened}
use Rattle.dav_local.specs.declared.entry.LocalFsDirEntry.{LocalFsDirEntry}
use Rattle.dav_local.specs.declared.file.LocalFsFile.{LocalFsFile}
use Rattle.dav_local.specs.declared.gathering.LocalFsReadDir.{LocalFsReadDir}
use Rattle.dav_local.specs.declared.ways.Ways.{Ways}
use Rattle.dav_local.specs.Calls.{AfterAbsent, Asks, BeginsAt, Finds, IsOpening, LooksAt, Place, is_shut}
use Rattle.dav_local.specs.Files.{filed}
use Rattle.dav_local.specs.FromRoot.{CostsAtMost}
use Rattle.dav_local.specs.Near.{CallsAtMost, IsAsAsked, IsAtOnce, KeepsPaths}
use Rattle.dav_local.specs.Remembering.{IsRemembered}
use Rattle.dav_local.specs.Saving.{AsksOneCall, OpensByTwo}
use Rattle.dav_local.specs.Shown.{knowledge_of, place_in}
use Rattle.dav_local.specs.Ways.{is_judged, is_known, rules_of}
use Rattle.dav_local.proofs.NearSeen.{begun_few}
use Rattle.dav_local.proofs.Counted.{few_called, few_more, unasked}
use Rattle.dav_local.proofs.FromRoot.{known_costs, unknown_costs}
use Rattle.dav_local.proofs.Seen.{not_judged}
use Rattle.dav_local_laws.specs.LocalStore.{IsLocalStore, place}

same_asked : (p q : Place) → q ≡ p → q.disk.asked ≡ p.disk.asked
same_asked p q same = ap (λ (x : Place). x.disk.asked) same

-- ---- a path that is found without the disk

-- The path is found with nothing asked, or memory was refused.
finds_known : {T : Type 0} (p q : Place) (names : Names) (call : Names → Place → Result T FsError → Place → Type 0) (r : Result T FsError) → is_known p.ways ≡ true → Finds p names call r q
    → ((at : Names) × (at ≡ or_walk p.ways.alone names) × call at p r q) ⊎ ((r ≡ Err fs.NoMemory) × (q ≡ p))
finds_known p q names call r known (Ok at, m, resolves, after) =
    let (same, is) = resolves.known known in inl (at, is, subst (λ k. call at k r q) same after)
finds_known p q names call r known (Err e, m, resolves, (is, ends)) =
    let none : e ≡ fs.NoMemory = (let starved = resolves.starved known in cc) in
    inr (is ∙ ap Err none, ends ∙ (resolves.known known).0)

looked_asks : (slash : Bool) (at : Names) (p q : Place) (r : Result Info FsError) → is_judged p.ways at ≡ false → LooksAt true slash at p r q → AsksToGive r p.disk q.disk
looked_asks slash at p q r fair (absent, n, tells, after) =
    let (dots, named) = not_judged p.ways.macos (is_dot (or_empty (last_name at))) (is_localized at) fair in
    let (same, is) = tells.plain dots in
    by (subst (λ a. AfterAbsent a true slash at n r q) (is ∙ ap (λ b. Ok b) named) after) same
  where
    by : AfterAbsent (Ok false) true slash at n r q → n ≡ p → AsksToGive r p.disk q.disk
    by (answer, t, metas, is, ends) same =
        asked_once r p.disk q.disk (ap (λ (x : Place). x.disk.asked) ends ∙ (metas.asks.asked ∙ ap (λ (x : Place). one_more x.disk.asked) same))

opened_asks : (at : Names) (p q : Place) (o : Result LocalFsFile FsError) → Asks (λ s answer t. Opens s at reading answer t) filed p o q → AsksToOpen 1 o p.disk q.disk
opened_asks at p q o (answer, t, opens, is, ends) = by o (ap (λ (x : Place). x.disk.asked) ends ∙ opens.asks.asked)
  where
    by : (o : Result LocalFsFile FsError) → AsksOnce p.disk q.disk → AsksToOpen 1 o p.disk q.disk
    by (Ok f) one = one
    by (Err e) one = few_called 1 p.disk q.disk (omega arith) one

shut_asks : (n : ℕ) (p q : Place) (o : Result LocalFsFile FsError) (e : FsError) → o ≡ Err e → q ≡ p → AsksToOpen n o p.disk q.disk
shut_asks n p q o e is same = subst (λ o. AsksToOpen n o p.disk q.disk) (sym is) (inl (same_asked p q same))

-- ---- a path that is found at once

-- What the memory has is remembered where it stands.
held_place : (cache : PathCache) (names at : Names) → place_in cache names ≡ Some at → (e : PathEntry) × (lookup (same_path (fold_path names)) cache.entries ≡ Some e) × (e.path ≡ at)
held_place cache names at has = by (lookup (same_path (fold_path names)) cache.entries) refl has
  where
    by : (o : Option PathEntry) → lookup (same_path (fold_path names)) cache.entries ≡ o → option_map (λ (e : PathEntry). e.path) o ≡ Some at
        → (e : PathEntry) × (lookup (same_path (fold_path names)) cache.entries ≡ Some e) × (e.path ≡ at)
    by None is has = cc
    by (Some e) is has = (e, is, (let same : ◌≡◌ {A = Option Names} (Some e.path) (Some at) = has in cc))

no_place : (cache : PathCache) (names : Names) → place_in cache names ≡ None → lookup (same_path (fold_path names)) cache.entries ≡ None
no_place cache names hasnt = by (lookup (same_path (fold_path names)) cache.entries) refl hasnt
  where
    by : (o : Option PathEntry) → lookup (same_path (fold_path names)) cache.entries ≡ o → option_map (λ (e : PathEntry). e.path) o ≡ None → lookup (same_path (fold_path names)) cache.entries ≡ None
    by None is none = is
    by (Some e) is none = cc

told_cache : (paths : Option PathCache) (places : Names → Option Names) → option_map (λ (c : PathCache). place_in c) paths ≡ Some places → (c : PathCache) × (paths ≡ Some c) × (places ≡ place_in c)
told_cache None places is = cc
told_cache (Some c) places is = (c, refl, (let same : ◌≡◌ {A = Option (Names → Option Names)} (Some (place_in c)) (Some places) = is in cc))

-- what is near in the model is found at once
pub near_once : (held : Bool) (p : Place) (w : World) (names at : Names) → p.disk.told ≡ Some w → IsNear held (knowledge_of p.memory) w names at → IsAtOnce p names at
near_once true p w names at told near =
    let (cache, tells, is) = told_cache p.memory.paths near.places near.tells in
    let (e, holds, place) = held_place cache names at (ap (λ (f : Names → Option Names). f names) (sym is) ∙ near.has) in
    inl (record { cache = cache; tells = tells; entry = e; holds = holds; place = place; world = w; told = told; row = near.row; stands = near.stands; clear = near.clear })
near_once false p w names at told (here, same) =
    let (cache, tells, is) = told_cache p.memory.paths here.places here.tells in
    inr (
      (
        record { cache = cache; tells = tells; none = no_place cache names (ap (λ (f : Names → Option Names). f names) (sym is) ∙ here.hasnt) },
        record { world = w; told = told; row = here.row; stands = here.stands; clear = here.clear },
      ),
      same,
    )

-- by whether the memory has it
abbrev IsSo : Bool → Place → Names → Names → Type 0
IsSo true p names at = IsRemembered p names at
IsSo false p names at = IsAsAsked p names × (at ≡ names)

so_once : (held : Bool) (p : Place) (names at : Names) → IsSo held p names at → IsAtOnce p names at
so_once true p names at so = inl so
so_once false p names at so = inr so

near_so : (held : Bool) (p : Place) (w : World) (names at : Names) → p.disk.told ≡ Some w → IsNear held (knowledge_of p.memory) w names at → IsSo held p names at
near_so true p w names at told near = elim (near_once true p w names at told near) [
  | inl held ↦ held
  | inr ((unkept, here), same) ↦ (
      let (cache, tells, is) = told_cache p.memory.paths near.places near.tells in
      let (e, holds, place) = held_place cache names at (ap (λ (f : Names → Option Names). f names) (sym is) ∙ near.has) in
      let caches : cache ≡ unkept.cache = (let both : ◌≡◌ {A = Option PathCache} (Some cache) (Some unkept.cache) = sym tells ∙ unkept.tells in cc) in
      let no : ◌≡◌ {A = Option PathEntry} (Some e) None = sym holds ∙ ap (λ (c : PathCache). lookup (same_path (fold_path names)) c.entries) caches ∙ unkept.none in cc
      )
]
near_so false p w names at told near = elim (near_once false p w names at told near) [
  | inr here ↦ here
  | inl held ↦ (
      let (cache, tells, is) = told_cache p.memory.paths near.0.places near.0.tells in
      let caches : cache ≡ held.cache = (let both : ◌≡◌ {A = Option PathCache} (Some cache) (Some held.cache) = sym tells ∙ held.tells in cc) in
      let none = no_place cache names (ap (λ (f : Names → Option Names). f names) (sym is) ∙ near.0.hasnt) in
      let no : ◌≡◌ {A = Option PathEntry} (Some held.entry) None = sym held.holds ∙ ap (λ (c : PathCache). lookup (same_path (fold_path names)) c.entries) (sym caches) ∙ none in cc
      )
]

-- It is so still where the memory kept its paths and the disk its tree.
so_after : (held : Bool) (p q : Place) (names at : Names) → KeepsPaths p.memory q.memory → Keeps p.disk q.disk → IsSo held p names at → IsSo held q names at
so_after true p q names at paths keeps so =
    let (d, now, alike) = told_after p.memory.paths q.memory.paths (λ a b. (names : Names) → lookup (same_path (fold_path names)) b.entries ≡ lookup (same_path (fold_path names)) a.entries) so.cache paths so.tells in
    let (v, told, same) = told_after p.disk.told q.disk.told SameBesidesOpens so.world keeps.world so.told in
    record {
      cache = d;
      tells = now;
      entry = so.entry;
      holds = alike names ∙ so.holds;
      place = so.place;
      world = v;
      told = told;
      row = so.row;
      stands = ap (λ z. look z at) same.tree ∙ so.stands;
      clear = ap (λ z. is_linked z at) same.tree ∙ so.clear;
    }
so_after false p q names at paths keeps ((unkept, here), is) =
    let (d, now, alike) = told_after p.memory.paths q.memory.paths (λ a b. (names : Names) → lookup (same_path (fold_path names)) b.entries ≡ lookup (same_path (fold_path names)) a.entries) unkept.cache paths unkept.tells in
    let (v, told, same) = told_after p.disk.told q.disk.told SameBesidesOpens here.world keeps.world here.told in (
      (
        record { cache = d; tells = now; none = alike names ∙ unkept.none },
        record { world = v; told = told; row = here.row; stands = ap (λ z. look z names) same.tree ∙ here.stands; clear = ap (λ z. is_linked z names) same.tree ∙ here.clear },
      ),
      is,
    )

gives_once : {A : Type 0} (p q : Place) (r : Result A FsError) → AsksOneCall p r q → AsksToGive r p.disk q.disk
gives_once p q r (inl once) = asked_once r p.disk q.disk once
gives_once {A = A} p q r (inr (is, same)) = subst (λ r. AsksToGive {A = A} r p.disk q.disk) (sym is) (inl (ap (λ (d : DiskState). d.asked) same))

opens_once : (p q : Place) (o : Result LocalFsFile FsError) → AsksOneCall p o q → AsksToOpen 1 o p.disk q.disk
opens_once p q (Ok file) (inl once) = once
opens_once p q (Ok file) (inr (is, same)) = (let no : ◌≡◌ {A = Result LocalFsFile FsError} (Ok file) (Err fs.NoMemory) = is in cc)
opens_once p q (Err e) (inl once) = few_called 1 p.disk q.disk (omega arith) once
opens_once p q (Err e) (inr (is, same)) = unasked 1 p.disk q.disk same

opens_twice : (s t : DiskState) (o : Result LocalFsFile FsError) → OpensByTwo s o t → AsksToOpen 2 o s t
opens_twice s t (Ok file) two = two
opens_twice s t (Err e) few = few

so_far : (s m t most : ℕ) → RefusedNothing s most → s ≤ m → m ≤ t → t ≤ most → RefusedNothing m t
so_far s m t most nothing first then end = record { same = omega (arith, nothing.same, first, then, end); room = omega (arith, nothing.room, end) }

module _ {S C : Type 0} (view : View S C LocalFsFile) (lists : Listings S C LocalFsReadDir LocalFsDirEntry) (writes : Writes LocalFsFile) (ways : S → Ways) (memory : S → MemoryState) (moment : S → Moment)
    (local : IsLocalStore view lists writes ways memory moment) where
  abbrev at : S → Place
  at s = place view lists writes ways memory moment s

  ways_after : (s t : S) (c : C) (path : WebPath) (r : Result Info FsError) → view.looks s c path r t → ways t ≡ ways s
  ways_after s t c path r h = (local.looks s t c path r h).1

  -- ---- found without the disk

  look_known : (s t : S) (c : C) (path : WebPath) (r : Result Info FsError) → is_known (ways s) ≡ true → is_virtual (rules_of (ways s)) path ≡ false
      → is_judged (ways s) (or_walk (ways s).alone path.names) ≡ false → view.looks s c path r t → AsksToGive r (view.state s) (view.state t)
  look_known s t c path r known plain fair h =
      by (finds_known (at s) (at t) path.names (LooksAt true (has_slash (ways s).alone path)) r known ((local.looks s t c path r h).0.asked plain))
    where
      by : ((end : Names) × (end ≡ or_walk (ways s).alone path.names) × LooksAt true (has_slash (ways s).alone path) end (at s) r (at t)) ⊎ ((r ≡ Err fs.NoMemory) × (at t ≡ at s))
          → AsksToGive r (view.state s) (view.state t)
      by (inl (end, is, looked)) = looked_asks (has_slash (ways s).alone path) end (at s) (at t) r (ap (is_judged (ways s)) is ∙ fair) looked
      by (inr (none, same)) = subst (λ r. AsksToGive {A = Info} r (view.state s) (view.state t)) (sym none) (inl (same_asked (at s) (at t) same))

  open_known : (s t : S) (c : C) (path : WebPath) (o : Result LocalFsFile FsError) → is_known (ways s) ≡ true → view.opens s c path reading o t → AsksToOpen 1 o (view.state s) (view.state t)
  open_known s t c path o known h = by_shut (is_shut (ways s) path) refl
    where
      is_opening : IsOpening (at s) path reading o (at t)
      is_opening = (local.opens s t c path reading o h).0

      by_shut : (b : Bool) → is_shut (ways s) path ≡ b → AsksToOpen 1 o (view.state s) (view.state t)
      by_shut true e = let (is, same) = is_opening.forbidden e in shut_asks 1 (at s) (at t) o fs.Forbidden is same
      by_shut false e = elim (finds_known (at s) (at t) path.names _ o known (is_opening.asked e)) [
        | inl found ↦ opened_asks found.0 (at s) (at t) o found.2
        | inr lost ↦ shut_asks 1 (at s) (at t) o fs.NoMemory lost.0 lost.1
      ]

  list_known : (s t : S) (c : C) (path : WebPath) (e : FsError) → is_known (ways s) ≡ true → lists.lists s c path Data (Err e) t → CallsAtMost 3 (view.state s) (view.state t)
  list_known s t c path e known h = by (finds_known (at s) (at t) path.names (BeginsAt Data) (Err e) known (local.begins s t c path Data (Err e) h).0)
    where
      by : ((end : Names) × (end ≡ or_walk (ways s).alone path.names) × BeginsAt Data end (at s) (Err e) (at t)) ⊎ (◌≡◌ {A = Result LocalFsReadDir FsError} (Err e) (Err fs.NoMemory) × (at t ≡ at s))
          → CallsAtMost 3 (view.state s) (view.state t)
      by (inl (end, is, (x, begins, ends))) =
          few_more 2 3 (view.state s) (view.state t) (omega arith)
          (subst (λ d. CallsAtMost 2 (view.state s) d) (sym (ap (λ (z : Place). z.disk) ends)) (begun_few (ways s).macos end Data (view.state s) (Err e) x begins))
      by (inr (none, same)) = inl (same_asked (at s) (at t) same)

  pub asks_meant : (s : S) (q : Query) (most : ℕ) → is_known (ways s) ≡ true → is_virtual (rules_of (ways s)) q.path ≡ false → is_judged (ways s) (or_walk (ways s).alone q.path.names) ≡ false
      → AsksFor view lists q 1 most s
  asks_meant s q most known plain fair = record {
    looks = λ t c r h keeps end. look_known s t c q.path r known plain fair h;
    opens = λ m t c r kind path o looked on h keeps counts end. open_known m t c path o (ap is_known (ways_after s m c q.path r looked) ∙ known) h;
    refuses_list = λ m t c r e looked h keeps counts end. list_known m t c q.path e (ap is_known (ways_after s m c q.path r looked) ∙ known) h;
    files = local.once;
  }

  -- A look, an opening and a refused listing, whether the rules for macOS touch the path or not.
  pub asks_unsought : (s : S) (q : Query) → is_known (ways s) ≡ true → AsksAtMostFor view lists q 2 s
  asks_unsought s q known = record {
    looks = λ t c r h. known_costs 2 6 (is_known (ways s)) (at s) (at t) q.path.names known (local.looks s t c q.path r h).3.most;
    opens = λ m t c r kind path o looked on h keeps.
        (let there : is_known (ways m) ≡ true = ap is_known (ways_after s m c q.path r looked) ∙ known in
        few_more 1 2 (view.state m) (view.state t) (omega arith) (known_costs 1 5 (is_known (ways m)) (at m) (at t) path.names there ((local.opens_once m t c path reading o h).most refl)));
    refuses_list = λ m t c r e looked h keeps.
        (let there : is_known (ways m) ≡ true = ap is_known (ways_after s m c q.path r looked) ∙ known in
        known_costs 2 6 (is_known (ways m)) (at m) (at t) q.path.names there (local.begins_once m t c q.path Data (Err e) h).most);
    files = local.once;
  }

  -- ---- found at once

  look_so : (held : Bool) (s t : S) (c : C) (path : WebPath) (r : Result Info FsError) (end : Names) → is_known (ways s) ≡ false → RefusedNothing (view.state s).faults (view.state t).faults
      → is_virtual (rules_of (ways s)) path ≡ false → IsSo held (at s) path.names end → is_judged (ways s) end ≡ false → view.looks s c path r t → AsksToGive r (view.state s) (view.state t)
  look_so true s t c path r end known nothing plain so fair h = gives_once (at s) (at t) r ((local.looks s t c path r h).3.held plain known nothing end so fair)
  look_so false s t c path r end known nothing plain (asked, is) fair h =
      gives_once (at s) (at t) r ((local.looks s t c path r h).3.here plain known nothing asked (ap (is_judged (ways s)) (sym is) ∙ fair))

  open_so : (held : Bool) (s t : S) (c : C) (path : WebPath) (o : Result LocalFsFile FsError) (end : Names) → is_known (ways s) ≡ false → RefusedNothing (view.state s).faults (view.state t).faults
      → IsSo held (at s) path.names end → view.opens s c path reading o t → AsksToOpen (calls_to_open held) o (view.state s) (view.state t)
  open_so held s t c path o end known nothing so h = by_shut (is_shut (ways s) path) refl
    where
      unless_shut : (held : Bool) → is_shut (ways s) path ≡ false → IsSo held (at s) path.names end → AsksToOpen (calls_to_open held) o (view.state s) (view.state t)
      unless_shut true e so = opens_once (at s) (at t) o ((local.opens_once s t c path reading o h).held e refl known nothing end so)
      unless_shut false e so = opens_twice (view.state s) (view.state t) o ((local.opens_once s t c path reading o h).here e refl known nothing so.0)

      by_shut : (b : Bool) → is_shut (ways s) path ≡ b → AsksToOpen (calls_to_open held) o (view.state s) (view.state t)
      by_shut true e = let (is, same) = (local.opens s t c path reading o h).0.forbidden e in shut_asks (calls_to_open held) (at s) (at t) o fs.Forbidden is same
      by_shut false e = unless_shut held e so

  pub asks_near : (s : S) (q : Query) (most : ℕ) (w : World) (held : Bool) → is_known (ways s) ≡ false → RefusedNothing (view.state s).faults most → (view.state s).told ≡ Some w
      → AreNear held (rules_of (ways s)) (knowledge_of (memory s)) w q → AsksFor view lists q (calls_to_open held) most s
  asks_near s q most w held known nothing told near = record {
    looks = λ t c r h keeps end.
        look_so held s t c q.path r near.seen.at known (so_far (view.state s).faults (view.state s).faults (view.state t).faults most nothing (omega arith) keeps.counts end) near.seen.plain seen near.seen.fair h;
    opens = λ m t c r kind path o looked on h keeps counts end.
        (let (there, so) = at_opened q (λ path. (at : Names) × IsNear held (knowledge_of (memory s)) w path.names at) near.opened kind path on in
        open_so held m t c path o there (unknown m c r looked) (so_far (view.state s).faults (view.state m).faults (view.state t).faults most nothing keeps.counts counts end)
        (so_after held (at s) (at m) path.names there (kept m t c r looked keeps counts end) keeps (near_so held (at s) w path.names there told so)) h);
    refuses_list = λ m t c r e looked h keeps counts end.
        (local.begins_once m t c q.path Data (Err e) h).held (unknown m c r looked) (so_far (view.state s).faults (view.state m).faults (view.state t).faults most nothing keeps.counts counts end) near.seen.at
        (so_once held (at m) q.path.names near.seen.at (so_after held (at s) (at m) q.path.names near.seen.at (kept m t c r looked keeps counts end) keeps seen));
    files = local.once;
  }
    where
      seen : IsSo held (at s) q.path.names near.seen.at
      seen = near_so held (at s) w q.path.names near.seen.at told near.seen.near

      unknown : (m : S) (c : C) (r : Result Info FsError) → view.looks s c q.path r m → is_known (ways m) ≡ false
      unknown m c r looked = ap is_known (ways_after s m c q.path r looked) ∙ known

      kept : (m t : S) (c : C) (r : Result Info FsError) → view.looks s c q.path r m → Keeps (view.state s) (view.state m) → (view.state m).faults ≤ (view.state t).faults → (view.state t).faults ≤ most
          → KeepsPaths (memory s) (memory m)
      kept m t c r looked keeps counts end =
          (local.looks s m c q.path r looked).3.kept near.seen.plain known
          (so_far (view.state s).faults (view.state s).faults (view.state m).faults most nothing (omega arith) keeps.counts (omega (arith, counts, end))) near.seen.at
          (so_once held (at s) q.path.names near.seen.at seen) near.seen.fair

  -- ---- sought, by so many calls at most

  pub asks_sought : (s : S) (q : Query) (most : ℕ) (w : World) → is_known (ways s) ≡ false → (view.state s).told ≡ Some w → OfItsPaths q (IsWalkedBy most w) → AsksAtMostFor view lists q (calls_to_seek most) s
  asks_sought s q most w known told both = record {
    looks = λ t c r h. walked 6 (at s) (at t) q.path.names w (omega arith) told (both.path.clear, both.path.few) (unknown_costs 2 6 (is_known (ways s)) (at s) (at t) q.path.names known (local.looks s t c q.path r h).3.most);
    opens = λ m t c r kind path o looked on h keeps.
        (let (v, now, tree) = later m keeps in
        walked 5 (at m) (at t) path.names v (omega arith) now (on_tree v path tree (at_opened q (IsWalkedBy most w) both kind path on)) (unknown_costs 1 5 (is_known (ways m)) (at m) (at t) path.names (unknown m c r looked) ((local.opens_once m t c path reading o h).most refl)));
    refuses_list = λ m t c r e looked h keeps.
        (let (v, now, tree) = later m keeps in
        walked 6 (at m) (at t) q.path.names v (omega arith) now (on_tree v q.path tree both.path) (unknown_costs 2 6 (is_known (ways m)) (at m) (at t) q.path.names (unknown m c r looked) (local.begins_once m t c q.path Data (Err e) h).most));
    files = local.once;
  }
    where
      walked : (n : ℕ) (p q : Place) (names : Names) (v : World) → n ≤ 6 → p.disk.told ≡ Some v → (is_link_on_way v.tree names ≡ false) × (calls_from_root v names ≤ most) → CostsAtMost n p names q
          → CallsAtMost (calls_to_seek most) p.disk q.disk
      walked n p q names v le told (clear, few) costs = few_more (calls_from_root v names + n) (calls_to_seek most) p.disk q.disk (omega (arith, le, few)) (costs v told clear)

      unknown : (m : S) (c : C) (r : Result Info FsError) → view.looks s c q.path r m → is_known (ways m) ≡ false
      unknown m c r looked = ap is_known (ways_after s m c q.path r looked) ∙ known

      later : (m : S) → Keeps (view.state s) (view.state m) → (v : World) × ((view.state m).told ≡ Some v) × (v.tree ≡ w.tree)
      later m keeps = let (v, now, same) = told_after (view.state s).told (view.state m).told SameBesidesOpens w keeps.world told in (v, now, same.tree)

      on_tree : (v : World) (path : WebPath) → v.tree ≡ w.tree → IsWalkedBy most w path → (is_link_on_way v.tree path.names ≡ false) × (calls_from_root v path.names ≤ most)
      on_tree v path tree by = (ap (λ z. is_link_on_way z path.names) tree ∙ by.clear, subst (λ z. 3 * length path.names + count_by (is_on_way path.names) z ≤ most) (sym tree) by.few)
