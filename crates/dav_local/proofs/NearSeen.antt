-- Looks and openings of paths that are found by few calls.
use Rattle.std.proofs.Common.{◌≡◌, ◌≤◌, ◌+◌, ◌≢◌, ◌∷◌, ◌⊎◌, inl, inr, ℕ, Bool, true, false, cond, not, Option, None, Some, option_map, Result, Ok, Err, OnErr, refl, sym, ap, subst, ◌∙◌, arith}
use Rattle.std.proofs.lemmas.Bool.{or_parts, not-false}
use Rattle.std.specs.Map.{lookup}
use Rattle.std.specs.Option.{is_some, unwrap_or}
use Rattle.dav_io.specs.Counts.{RefusedNothing}
use Rattle.dav_io.specs.Told.{Both}
use Rattle.dav_io.proofs.ToldLemmas.{told_after}
use Rattle.dav_io.proofs.Rising.{no_rise}
use Rattle.dav_core.specs.declared.error.FsError.{FsError}
use Rattle.dav_core.specs.declared.handle.DiskError.{DiskError}
use Rattle.dav_core.specs.declared.handle.Handle.{Handle}
use Rattle.dav_core.specs.declared.handle.Meta.{Meta}
use Rattle.dav_core.specs.declared.handle.OpenOptions.{OpenOptions}
use Rattle.dav_core.specs.DavPath.{WebPath}
use Rattle.dav_core.specs.Disk.{DiskState, Metas, Opens}
use Rattle.dav_core.specs.Info.{Info}
use Rattle.dav_core.specs.Path.{Names}
use Rattle.dav_core.specs.Tree.{is_linked, look}
use Rattle.dav_core.specs.Unchanged.{Keeps}
use Rattle.dav_core.specs.World.{World}
use Rattle.dav_core.specs.Writing.{reading}
use Rattle.dav_store.specs.declared.entry.ReadDirMeta.{ReadDirMeta}
use Rattle.dav_store.specs.Files.{AsksOnce}
use Rattle.dav_store.specs.Frames.{OpensOne}
use Rattle.dav_model.specs.Finding.{has_slash, is_virtual}
use Rattle.dav_memory.specs.Calls.{Looks, Seeing}
use Rattle.dav_memory.specs.declared.entry.PathEntry.{PathEntry}
use Rattle.dav_memory.specs.Entries.{PathCache, Paths, without}
use Rattle.dav_memory.specs.Memory.{Gets, MemoryState}
use Rattle.dav_memory.specs.Trees.{same_path, fold_path as kept_path}
use Rattle.dav_memory.proofs.Keys.{path_decides, path_tells}
use Rattle.dav_memory.proofs.Lists.{lookup-without_other}
use Rattle.dav_local.specs.declared.file.LocalFsFile.{LocalFsFile}
use Rattle.dav_local.specs.declared.gathering.LocalFsReadDir.{LocalFsReadDir}
use Rattle.dav_local.specs.Calls.{AfterFound, IsOpening, LooksAt, is_shut}
use Rattle.dav_local.specs.Files.{filed}
use Rattle.dav_local.specs.FromRoot.{CostsAtMost, CostsBy}
use Rattle.dav_local.specs.Gathering.{BeginsDir}
use Rattle.dav_local.specs.LocalFiles.{local_file}
use Rattle.dav_local.specs.Near.{Calls, CallsAtMost, FindsAtOnce, FindsHere, IsAtOnce, KeepsAsked, KeepsPaths, KeepsSeen, MissesUnasked, OpensThereByTwo, SeeksIn, SeeksNear, SeesThere, SoughtIn, StandsClear, members_at}
use Rattle.dav_local.specs.Places.{Place}
use Rattle.dav_local.specs.Remembering.{IsRemembered}
use Rattle.dav_local.specs.Resolving.{Resolves}
use Rattle.dav_local.specs.Saving.{AsksOneCall, OpensAsAsked, OpensByTwo, OpensOnce, SavesAt, SavesDir, SavesLook, SavesOpen, SavesOpening, SeesAsAsked, SeesOnce, is_judged}
use Rattle.dav_local.specs.Seeing.{AnswersSeen, OpensAt}
use Rattle.dav_local.specs.Ways.{Ways, is_known, rules_of}
use Rattle.dav_model.specs.Folds.{Name, fold_path}
use Rattle.dav_local.proofs.Counted.{calls_then, few_called, few_more, few_then, one_then, unasked}
use Rattle.dav_local.proofs.FromRoot.{costs_behind, costs_known, costs_none, costs_unknown}
use Rattle.dav_local.proofs.Memories.{error_of}
use Rattle.dav_local.proofs.MostSeen.{looked_at_few}
use Rattle.dav_local.proofs.Recalling.{no_refusal, none_is}
use Rattle.dav_local.proofs.NearFound.{got_unkept, in_as, nothing_after, nothing_before, seen_there, some_none, unseen}
use Rattle.dav_local.proofs.Rows.{not_both}
use Rattle.dav_local.proofs.Above.{same_folds}

-- ---- sought, and then a call

module _ {T : Type 0} (call : Names → Place → Result T FsError → Place → Type 0) where
  -- A call follows at the place found.
  pub seeks_there : (n : ℕ) (p m q : Place) (names at : Names) (found : Result Names FsError) (r : Result T FsError) → found ≡ Ok at → SoughtIn n p names found m → p.disk.faults ≤ m.disk.faults
      → m.disk.faults ≤ q.disk.faults → call at m r q → SeeksNear n p names call r q
  seeks_there n p m q names at found r is sought first then called = λ nothing dir place name e.
      let (alike, few) = sought (nothing_before p.disk m.disk q.disk nothing first then) dir place name e in
      record { found = found; then = m; there = alike; few = few; after = subst (λ f. AfterFound f m call r q) (sym is) called }

  pub seeks_refused : (n : ℕ) (p q : Place) (names : Names) (found : Result Names FsError) (e : FsError) → found ≡ Err e → SoughtIn n p names found q → SeeksNear n p names call (Err e) q
  seeks_refused n p q names found e is sought = λ nothing dir place name x.
      let (alike, few) = sought nothing dir place name x in
      record { found = found; then = q; there = alike; few = few; after = subst (λ f. AfterFound f q call (Err e) q) (sym is) (refl, refl) }

  -- Memory was wanting after one call at most.
  pub seeks_starved : (n : ℕ) (p q : Place) (names : Names) (e : FsError) → 1 ≤ n → CallsAtMost 1 p.disk q.disk → SeeksNear n p names call (Err e) q
  seeks_starved n p q names e le few = λ nothing dir place name x.
      record { found = Err e; then = q; there = tt; few = few_more 1 (members_at x.world place + n) p.disk q.disk (omega (arith, le)) few; after = (refl, refl) }

  -- The disk was asked one call before.
  pub seeks_later : (p q : Place) (t : DiskState) (names : Names) (e : DiskError) (r : Result T FsError) → Metas p.disk names (Err e) t → t.faults ≤ q.disk.faults
      → SeeksNear 3 (record p { disk = t }) names call r q → SeeksNear 4 p names call r q
  seeks_later p q t names e r metas counts seeks = λ nothing dir at name is.
      let (f, same) = in_as p (record p { disk = t }) names dir at name refl metas.world is in
      later at is.world name f.world (ap (λ (u : World). members_at u at) same) (seeks (nothing_after p.disk t q.disk nothing metas.asks.counts counts) dir at name f)
    where
      later : (at : Names) (w : World) (name : Name) (v : World) → members_at v at ≡ members_at w at → SeeksIn 3 (record p { disk = t }) at name v call r q → SeeksIn 4 p at name w call r q
      later at w name v counted s = record {
        found = s.found;
        then = s.then;
        there = s.there;
        few = few_more (members_at v at + 3 + 1) (members_at w at + 4) p.disk s.then.disk (omega (arith, counted)) (one_then (members_at v at + 3) p.disk t s.then.disk metas.asks.asked s.few);
        after = s.after;
      }

  -- What is seen at the path isn't sought.
  pub seeks_seen : (n : ℕ) (p q : Place) (t : DiskState) (names : Names) (m : Meta) (r : Result T FsError) → Metas p.disk names (Ok m) t → SeeksNear n p names call r q
  seeks_seen n p q t names m r metas = λ nothing dir at name e. unseen p t names dir at name m metas e

  -- The memory was asked before, which hasn't the path.
  pub seeks_unknown : {A : Type 0} (p m q : Place) (names : Names) (found : Option A) (r : Result T FsError) → MissesUnasked p names (Ok found) m → SeeksNear 4 m names call r q → SeeksNear 4 p names call r q
  seeks_unknown p m q names found r misses seeks = λ nothing dir at name e.
      let (disk, paths, none) = misses e.unkept in
      let (f, same) = in_as p m names dir at name paths (ap (λ (d : DiskState). d.told) disk) e in
      later at e.world name f.world (ap (λ (u : World). members_at u at) same) disk (seeks (subst (λ (d : DiskState). RefusedNothing d.faults q.disk.faults) (sym disk) nothing) dir at name f)
    where
      later : (at : Names) (w : World) (name : Name) (v : World) → members_at v at ≡ members_at w at → m.disk ≡ p.disk → SeeksIn 4 m at name v call r q → SeeksIn 4 p at name w call r q
      later at w name v counted disk s = record {
        found = s.found;
        then = s.then;
        there = s.there;
        few = few_more (members_at v at + 4) (members_at w at + 4) p.disk s.then.disk (omega (arith, counted)) (subst (λ d. CallsAtMost (members_at v at + 4) d s.then.disk) disk s.few);
        after = s.after;
      }

  -- What the memory has isn't sought.
  pub seeks_recalled : {A : Type 0} (n : ℕ) (p m q : Place) (names : Names) (found : Option A) (x : A) (r : Result T FsError) → MissesUnasked p names (Ok found) m → found ≡ Some x → SeeksNear n p names call r q
  seeks_recalled n p m q names found x r misses is = λ nothing dir at name e. (let (disk, paths, none) = misses e.unkept in some_none found x is none)

-- ---- looks

pub sees_seen : (p q : Place) (t : DiskState) (names : Names) (m : Meta) (slash : Bool) (r : Result Info FsError) → Metas p.disk names (Ok m) t → AnswersSeen names m slash (record p { disk = t }) r q
    → SeesThere p names q
sees_seen p q t names m slash r metas answers = λ nothing here fair.
    let (is, same) = answers.seen fair in
    (subst (λ d. AsksOnce p.disk d) (sym (ap (λ (x : Place). x.disk) same)) metas.asks.asked, ap (λ (x : Place). x.memory) same)

pub sees_unseen : (p q : Place) (t : DiskState) (names : Names) (e : DiskError) → Metas p.disk names (Err e) t → t.faults ≤ q.disk.faults → SeesThere p names q
sees_unseen p q t names e metas counts = λ nothing here fair. seen_there p.disk t names e metas here (nothing_before p.disk t q.disk nothing metas.asks.counts counts)

pub asked_unknown : {A : Type 0} (p m q : Place) (names : Names) (found : Option A) (r : Result Info FsError) → MissesUnasked p names (Ok found) m → m.ways ≡ p.ways → SeesThere m names q → SeesAsAsked p names r q
asked_unknown p m q names found r misses ways sees = λ nothing so fair.
    let (disk, paths, none) = misses so.0 in
    inl (subst (λ d. AsksOnce d q.disk) disk
    (sees (subst (λ (d : DiskState). RefusedNothing d.faults q.disk.faults) (sym disk) nothing) (subst (λ d. StandsClear d names) (sym disk) so.1) (ap (λ (w : Ways). is_judged w names) ways ∙ fair)).0)

pub asked_recalled : {A : Type 0} (p m q : Place) (names : Names) (found : Option A) (x : A) (r : Result Info FsError) → MissesUnasked p names (Ok found) m → found ≡ Some x → SeesAsAsked p names r q
asked_recalled p m q names found x r misses is = λ nothing so fair. (let (disk, paths, none) = misses so.0 in some_none found x is none)

pub asked_starved : (p q : Place) (names : Names) (e : FsError) → SeesOnce p names (Err e) q → SeesAsAsked p names (Err e) q
asked_starved p q names e sees = λ nothing asked fair. inr (let (is, same) = sees.starved in (ap (λ x. Err x) (error_of e is), same))

pub looks_starved : (p q : Place) (names : Names) (e : FsError) → SeesOnce p names (Err e) q → CallsAtMost 1 p.disk q.disk
looks_starved p q names e sees = unasked 1 p.disk q.disk (sees.starved).1

-- ---- what a look keeps

lookup_promoted : (key names : Names) (e : PathEntry) (es : Paths) → lookup (same_path key) es ≡ Some e → lookup (same_path names) ((key, e) ∷ without (same_path key) es) ≡ lookup (same_path names) es
lookup_promoted key names e es had = by_key (path_tells names key)
  where
    apart : names ≢ key → (k : Names) → same_path names k ≡ true → same_path key k ≡ true → ⊥
    apart ne k a b = ne ((path_decides names k).0 a ∙ sym ((path_decides key k).0 b))

    by_key : ((same_path names key ≡ true) × (names ≡ key)) ⊎ ((same_path names key ≡ false) × (names ≢ key))
        → lookup (same_path names) ((key, e) ∷ without (same_path key) es) ≡ lookup (same_path names) es
    by_key (inl (tells, same)) = ap (λ b. cond b (Some e) (lookup (same_path names) (without (same_path key) es))) tells ∙ sym had ∙ ap (λ k. lookup (same_path k) es) (sym same)
    by_key (inr (tells, ne)) =
        ap (λ b. cond b (Some e) (lookup (same_path names) (without (same_path key) es))) tells ∙ lookup-without_other (same_path names) (same_path key) (apart ne) es

paths_same : (a b : Option PathCache) → b ≡ a → Both a b (λ c d. (names : Names) → lookup (same_path (fold_path names)) d.entries ≡ lookup (same_path (fold_path names)) c.entries)
paths_same None b same = rw same tt
paths_same (Some c) b same = rw same (λ names. refl)

both_some : (a b : Option PathCache) (c d : PathCache) (P : PathCache → PathCache → Type 0) → a ≡ Some c → b ≡ Some d → P c d → Both a b P
both_some a b c d P old new p = rw (old, new) p

-- What was found by the memory came to the front.
got_kept : (p : Place) (names at : Names) (found : Option (Names × Meta)) (m : MemoryState) (t : DiskState) → Gets p.memory names p.disk found m t → RefusedNothing p.disk.faults t.faults
    → IsRemembered p names at → KeepsPaths p.memory m
got_kept p names at found m t gets nothing held =
    let (d, now, looks) = told_after p.memory.paths m.paths (λ a b. Looks (lookup (same_path (kept_path names)) a.entries) a names p.disk found b t) held.cache gets.paths held.tells in
    both_some p.memory.paths m.paths held.cache d (λ a b. (names : Names) → lookup (same_path (fold_path names)) b.entries ≡ lookup (same_path (fold_path names)) a.entries) held.tells now
    (by_entry d (subst (λ o. Looks o held.cache names p.disk found d t) had looks))
  where
    had : lookup (same_path (kept_path names)) held.cache.entries ≡ Some held.entry
    had = ap (λ k. lookup (same_path k) held.cache.entries) (same_folds names) ∙ held.holds

    by_entry : (d : PathCache) → Looks (Some held.entry) held.cache names p.disk found d t → (other : Names) → lookup (same_path (fold_path other)) d.entries ≡ lookup (same_path (fold_path other)) held.cache.entries
    by_entry d (Ok meta, metas, is, new) = λ other.
        ap (λ (c : PathCache). lookup (same_path (fold_path other)) c.entries) new ∙ lookup_promoted (kept_path names) (fold_path other) held.entry held.cache.entries had
    by_entry d (Err e, metas, is, new) =
        absurd (no_refusal e (look held.world.tree held.entry.path) held.row metas.only (metas.told held.world held.told (ap (is_linked held.world.tree) held.place ∙ held.clear))
        (ap (look held.world.tree) held.place ∙ held.stands) (λ fault. no_rise p.disk.faults t.faults nothing (metas.asks.rose (ap (λ x. Err x) fault))))

pub asked_kept : (p q : Place) (names : Names) (found : Option (Names × Meta)) → Gets p.memory names p.disk found q.memory q.disk → KeepsAsked p names q
asked_kept p q names found gets = λ nothing at once. by_once nothing at once
  where
    by_once : RefusedNothing p.disk.faults q.disk.faults → (at : Names) → IsAtOnce p names at → KeepsPaths p.memory q.memory
    by_once nothing at (inl held) = got_kept p names at found q.memory q.disk gets nothing held
    by_once nothing at (inr ((unkept, here), same)) = let (disk, paths, none) = got_unkept Seeing p names found q.memory q.disk gets unkept in paths_same p.memory.paths q.memory.paths paths

pub unasked_kept : (p q : Place) (names : Names) → q.memory ≡ p.memory → KeepsAsked p names q
unasked_kept p q names same = λ nothing at once. paths_same p.memory.paths q.memory.paths (ap (λ (m : MemoryState). m.paths) same)

-- The look itself leaves the memory.
pub seen_kept : (p m q : Place) (names there : Names) (meta : Meta) (slash : Bool) (found : Option (Names × Meta)) (r : Result Info FsError) → SeesOnce p names (Ok found) m → MissesUnasked p names (Ok found) m
    → found ≡ Some (there, meta) → m.ways ≡ p.ways → AnswersSeen there meta slash m r q → Keeps p.disk m.disk → Keeps m.disk q.disk → KeepsAsked p names m → KeepsSeen p names q
seen_kept p m q names there meta slash found r sees misses is ways answers first then kept = λ nothing at once fair. by_once (nothing_before p.disk m.disk q.disk nothing first.counts then.counts) at once fair
  where
    by_once : RefusedNothing p.disk.faults m.disk.faults → (at : Names) → IsAtOnce p names at → is_judged p.ways at ≡ false → KeepsPaths p.memory q.memory
    by_once nothing at (inr ((unkept, here), same)) fair = (let (disk, paths, none) = misses unkept in some_none found (there, meta) is none)
    by_once nothing at (inl held) fair =
        let (same, once) = sees.saved nothing at held in
        let here : at ≡ there = (let e : Some at ≡ Some there = sym same ∙ ap (option_map (λ (f : Names × Meta). f.0)) is in cc) in
        let (answer, still) = answers.seen (ap (λ w. is_judged w there) ways ∙ ap (is_judged p.ways) (sym here) ∙ fair) in
        subst (λ (x : Place). KeepsPaths p.memory x.memory) (sym still) (kept nothing at (inl held))

pub missed_kept : (p m q : Place) (names : Names) (found : Option (Names × Meta)) → SeesOnce p names (Ok found) m → MissesUnasked p names (Ok found) m → found ≡ None → m.ways ≡ p.ways
    → Keeps p.disk m.disk → Keeps m.disk q.disk → SeesThere m names q → KeepsSeen p names q
missed_kept p m q names found sees misses is ways first then there = λ nothing at once fair. by_once nothing at once fair
  where
    by_once : RefusedNothing p.disk.faults q.disk.faults → (at : Names) → IsAtOnce p names at → is_judged p.ways at ≡ false → KeepsPaths p.memory q.memory
    by_once nothing at (inl held) fair =
        let (same, once) = sees.saved (nothing_before p.disk m.disk q.disk nothing first.counts then.counts) at held in
        let never : ◌≡◌ {A = Option Names} None (Some at) = sym (ap (option_map (λ (f : Names × Meta). f.0)) is) ∙ same in cc
    by_once nothing at (inr ((unkept, here), place)) fair =
        let (disk, paths, none) = misses unkept in
        let (once, memory) = there (nothing_after p.disk m.disk q.disk nothing first.counts then.counts) (subst (λ d. StandsClear d names) (sym disk) here)
        (ap (λ (w : Ways). is_judged w names) ways ∙ ap (is_judged p.ways) (sym place) ∙ fair) in
        paths_same p.memory.paths q.memory.paths (ap (λ (x : MemoryState). x.paths) memory ∙ paths)

pub starved_kept : (p q : Place) (names : Names) → KeepsAsked p names q → KeepsSeen p names q
starved_kept p q names kept = λ nothing at once fair. kept nothing at once

-- ---- openings

pub opens_two : (p m q : Place) (names at : Names) (found : Result (Option Names) FsError) (how : OpenOptions) (r : Result LocalFsFile FsError) → FindsHere p names found m → p.disk.faults ≤ m.disk.faults
    → m.disk.faults ≤ q.disk.faults → ((answer : Result Handle DiskError) × Opens m.disk at how answer q.disk × (r ≡ filed answer)) → OpensThereByTwo p names q
opens_two p m q names at found how r finds first then (answer, opens, is) = λ nothing here.
    let (none, once) = finds (nothing_before p.disk m.disk q.disk nothing first then) here in calls_then 1 1 p.disk m.disk q.disk once opens.asks.asked

-- an opening takes no fault back
pub opened_more : (s t : DiskState) (how : OpenOptions) (r : Result LocalFsFile FsError) → OpensOne local_file how s r t → s.faults ≤ t.faults
opened_more s t how (Ok f) one = one.others.counts
opened_more s t how (Err e) one = one.others.counts

pub seeks_opened : (p m : Place) (t : DiskState) (names at : Names) (found : Option Names) (how : OpenOptions) (r : Result LocalFsFile FsError) → SoughtIn 4 p names (Ok (unwrap_or found names)) m
    → p.disk.faults ≤ m.disk.faults → m.disk.faults ≤ t.faults → at ≡ unwrap_or found names → how ≡ reading → ((answer : Result Handle DiskError) × Opens m.disk at how answer t × (r ≡ filed answer))
    → SeeksNear 4 p names (OpensAt reading) r (record m { disk = t })
seeks_opened p m t names at found how r sought first then here is (answer, opens, said) =
    seeks_there (OpensAt reading) 4 p m (record m { disk = t }) names at (Ok (unwrap_or found names)) r (ap (λ z. Ok z) (sym here)) sought first then
    (answer, t, subst (λ o. Opens m.disk at o answer t) is opens, said, refl)

two_at_most : (s t : DiskState) (r : Result LocalFsFile FsError) → Calls 2 s t → OpensByTwo s r t
two_at_most s t (Ok file) calls = calls
two_at_most s t (Err e) calls = inr (2, omega arith, calls)

pub two_unknown : {A : Type 0} (p m q : Place) (names : Names) (found : Option A) (r : Result LocalFsFile FsError) → MissesUnasked p names (Ok found) m → OpensThereByTwo m names q → OpensAsAsked p names r q
two_unknown p m q names found r misses opens = λ nothing so.
    let (disk, paths, none) = misses so.0 in
    two_at_most p.disk q.disk r (subst (λ d. Calls 2 d q.disk) disk
    (opens (subst (λ (d : DiskState). RefusedNothing d.faults q.disk.faults) (sym disk) nothing) (subst (λ d. StandsClear d names) (sym disk) so.1)))

pub two_recalled : {A : Type 0} (p m q : Place) (names : Names) (found : Option A) (x : A) (r : Result LocalFsFile FsError) → MissesUnasked p names (Ok found) m → found ≡ Some x → OpensAsAsked p names r q
two_recalled p m q names found x r misses is = λ nothing so. (let (disk, paths, none) = misses so.0 in some_none found x is none)

called_once : {A : Type 0} (p q : Place) (r : Result A FsError) → AsksOneCall p r q → CallsAtMost 1 p.disk q.disk
called_once p q r (inl once) = few_called 1 p.disk q.disk (omega arith) once
called_once p q r (inr (is, same)) = unasked 1 p.disk q.disk same

pub opening_starved : (p q : Place) (names : Names) (e : FsError) → OpensOnce p names (Err e) q → CallsAtMost 1 p.disk q.disk
opening_starved p q names e opens = called_once p q (Err e) opens.starved

-- ---- what a look saves

-- The two files that are looked for cost nothing.
pub saves_virtual : (p q : Place) (path : WebPath) (r : Result Info FsError) → is_virtual (rules_of p.ways) path ≡ true → q ≡ p → SavesLook p path r q
saves_virtual p q path r is same = record {
  held = λ real. not_both (is_virtual (rules_of p.ways) path) is real;
  here = λ real. not_both (is_virtual (rules_of p.ways) path) is real;
  above = λ real. not_both (is_virtual (rules_of p.ways) path) is real;
  kept = λ real. not_both (is_virtual (rules_of p.ways) path) is real;
  most = costs_none 2 6 (is_known p.ways) p q path.names (ap (λ (x : Place). x.disk) same);
}

pub saves_look : (p q : Place) (path : WebPath) (names : Names) (slash : Bool) (r : Result Info FsError) → is_known p.ways ≡ false → names ≡ path.names → slash ≡ has_slash p.ways.alone path → SavesAt p names r q
    → SeesAsAsked p names r q → SeeksNear 4 p names (LooksAt true slash) r q → KeepsSeen p names q → CostsAtMost 6 p names q → SavesLook p path r q
saves_look p q path names slash r unknown same slashed held here above kept most = record {
  held = λ real. subst (λ n. SavesAt p n r q) same held;
  here = λ real known. subst (λ n. SeesAsAsked p n r q) same here;
  above = λ real known. subst (λ s. SeeksNear 4 p path.names (LooksAt true s) r q) slashed (subst (λ n. SeeksNear 4 p n (LooksAt true slash) r q) same above);
  kept = λ real known. subst (λ n. KeepsSeen p n q) same kept;
  most = costs_unknown 2 6 (is_known p.ways) p q path.names unknown (subst (λ n. CostsAtMost 6 p n q) same most);
}

-- A path that is found without the disk is looked at by two calls at most.
pub looks_known : (p m q : Place) (path : WebPath) (names at : Names) (found : Result Names FsError) (follows slash : Bool) (r : Result Info FsError) → is_known p.ways ≡ true → Resolves p names found m
    → LooksAt follows slash at m r q → SavesLook p path r q
looks_known p m q path names at found follows slash r known resolves looked = record {
  held = λ real unknown. not_both (is_known p.ways) known unknown;
  here = λ real unknown. not_both (is_known p.ways) known unknown;
  above = λ real unknown. not_both (is_known p.ways) known unknown;
  kept = λ real unknown. not_both (is_known p.ways) known unknown;
  most =
      costs_known 2 6 (is_known p.ways) p q path.names known
      (subst (λ d. CallsAtMost 2 d q.disk) (ap (λ (x : Place). x.disk) (resolves.known known).0) (looked_at_few m q at follows slash r looked));
}

pub saves_open : (p q : Place) (path : WebPath) (names : Names) (how : OpenOptions) (r : Result LocalFsFile FsError) → is_known p.ways ≡ false → names ≡ path.names → SavesOpening p names r q → OpensAsAsked p names r q
    → SeeksNear 4 p names (OpensAt reading) r q → CostsAtMost 5 p names q → SavesOpen p path how r q
saves_open p q path names how r unknown same held here above most = record {
  held = λ unshut reads. subst (λ n. SavesOpening p n r q) same held;
  here = λ unshut reads known. subst (λ n. OpensAsAsked p n r q) same here;
  above = λ unshut reads known. subst (λ n. SeeksNear 4 p n (OpensAt reading) r q) same above;
  most = λ reads. costs_unknown 1 5 (is_known p.ways) p q path.names unknown (subst (λ n. CostsAtMost 5 p n q) same most);
}

-- What these rules shut costs none.
pub shut_opening : (p : Place) (path : WebPath) (how : OpenOptions) → is_shut p.ways path ≡ true → IsOpening p path how (Err FsError.Forbidden) p × SavesOpen p path how (Err FsError.Forbidden) p
shut_opening p path how is = (
  record { forbidden = λ shut. (refl, refl); asked = λ unshut. not_both (is_shut p.ways path) is unshut },
  record {
    held = λ unshut. not_both (is_shut p.ways path) is unshut;
    here = λ unshut. not_both (is_shut p.ways path) is unshut;
    above = λ unshut. not_both (is_shut p.ways path) is unshut;
    most = λ reads. costs_none 1 5 (is_known p.ways) p p path.names refl;
  },
)

-- ---- listings

pub begun_few : (gathers : Bool) (at : Names) (wanted : ReadDirMeta) (s : DiskState) (r : Result LocalFsReadDir FsError) (t : DiskState) → BeginsDir gathers at wanted s r t → CallsAtMost 2 s t
begun_few false at wanted s r t (begun, (answer, lists, is), whole) = few_called 2 s t (omega arith) lists.counted.asked
begun_few true at wanted s r t (inl (is, same)) = unasked 2 s t same
begun_few true at wanted s r t (inr (b, m, (found, metas, started), begun, (answer, lists, is), whole)) =
    few_then 1 1 s m t (few_called 1 s m (omega arith) metas.asks.asked) (few_called 1 m t (omega arith) lists.counted.asked)

pub begun_counts : (gathers : Bool) (at : Names) (wanted : ReadDirMeta) (s : DiskState) (r : Result LocalFsReadDir FsError) (t : DiskState) → BeginsDir gathers at wanted s r t → s.faults ≤ t.faults
begun_counts false at wanted s r t (begun, (answer, lists, is), whole) = lists.counted.counts
begun_counts true at wanted s r t (inl (is, same)) = let e = ap (λ (d : DiskState). d.faults) same in omega (arith, e)
begun_counts true at wanted s r t (inr (b, m, (found, metas, started), begun, (answer, lists, is), whole)) =
    let first = metas.asks.counts in let later = lists.counted.counts in omega (arith, first, later)

on_err : {A B : Type 0} (r : Result A B) (P : Type 0) → P → OnErr r P
on_err (Ok x) P p = tt
on_err (Err e) P p = p

pub dir_begun : (p m q : Place) (names at : Names) (gathers : Bool) (wanted : ReadDirMeta) (r : Result LocalFsReadDir FsError) → FindsAtOnce p names m → p.disk.faults ≤ m.disk.faults
    → m.disk.faults ≤ q.disk.faults → BeginsDir gathers at wanted m.disk r q.disk → RefusedNothing p.disk.faults q.disk.faults → (place : Names) → IsAtOnce p names place
    → OnErr r (CallsAtMost 3 p.disk q.disk)
dir_begun p m q names at gathers wanted r finds first then begins nothing place once =
    on_err r (CallsAtMost 3 p.disk q.disk)
    (few_then 1 2 p.disk m.disk q.disk (finds (nothing_before p.disk m.disk q.disk nothing first then) place once) (begun_few gathers at wanted m.disk r q.disk begins))

pub saves_dir : (p m q : Place) (path : WebPath) (at : Names) (gathers : Bool) (wanted : ReadDirMeta) (r : Result LocalFsReadDir FsError) → (p.ways.alone ≡ None → p.ways.folds ≡ true → FindsAtOnce p path.names m)
    → p.disk.faults ≤ m.disk.faults → m.disk.faults ≤ q.disk.faults → BeginsDir gathers at wanted m.disk r q.disk → CostsBy (is_known p.ways) 0 4 p path.names m → SavesDir p path r q
saves_dir p m q path at gathers wanted r finds first then begins most = record {
  held = λ known.
      (let (alone, folding) = or_parts (is_some p.ways.alone) (not p.ways.folds) known in
      dir_begun p m q path.names at gathers wanted r (finds (none_is p.ways.alone alone) (not-false p.ways.folds folding)) first then begins);
  most = costs_behind 2 0 4 2 6 (is_known p.ways) p m q path.names (omega arith) (omega arith) most (begun_few gathers at wanted m.disk r q.disk begins);
}

-- no directory is found
pub unfound_dir : (p q : Place) (path : WebPath) (e : FsError) → (p.ways.alone ≡ None → p.ways.folds ≡ true → FindsAtOnce p path.names q) → CostsBy (is_known p.ways) 0 4 p path.names q
    → SavesDir p path (Err e) q
unfound_dir p q path e finds most = record {
  held = λ known nothing place once.
      (let (alone, folding) = or_parts (is_some p.ways.alone) (not p.ways.folds) known in
      few_more 1 3 p.disk q.disk (omega arith) (finds (none_is p.ways.alone alone) (not-false p.ways.folds folding) nothing place once));
  most = costs_behind 0 0 4 2 6 (is_known p.ways) p q q path.names (omega arith) (omega arith) most (inl refl);
}
