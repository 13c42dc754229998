-- What a look of a local store finds in the told world, whatever its ways are, where the world is one of a valid run.
use Rattle.std.proofs.Common.{◌≡◌, ◌≤◌, ◌⊎◌, inl, inr, ◌&&◌, ◌||◌, Bool, true, false, cond, List, Some, Result, Ok, Err, refl, sym, ap, subst, ◌∙◌, arith}
use Rattle.dav_io.specs.declared.failure.NoMemory.{NoMemory as Starved}
use Rattle.dav_io.specs.Told.{Both}
use Rattle.dav_io.proofs.ToldLemmas.{both_same, both_then, told_after}
use Rattle.dav_io.specs.declared.clock.Moment.{Moment}
use Rattle.dav_core.specs.declared.error.FsError.{FsError}
use Rattle.dav_core.specs.declared.error.FsError.TheVariants as fs
use Rattle.dav_core.specs.declared.handle.DiskError.{DiskError}
use Rattle.dav_core.specs.declared.handle.Meta.{Meta}
use Rattle.dav_core.specs.declared.tree.Row.{Row}
use Rattle.dav_core.specs.DavPath.{WebPath}
use Rattle.dav_core.specs.Disk.{DiskState, MetasBy}
use Rattle.dav_core.specs.Info.{Info}
use Rattle.dav_core.specs.Path.{Names}
use Rattle.dav_core.specs.Tree.{is_linked, look}
use Rattle.dav_core.specs.World.{SameBesidesOpens, World}
use Rattle.dav_core.proofs.UnchangedLemmas.{same_besides, same_besides_then}
use Rattle.dav_store.specs.Files.{Spoiled}
use Rattle.dav_store.specs.Void.{empty_info}
use Rattle.dav_store.specs.View.{Listings, View}
use Rattle.dav_model.specs.declared.settings.Settings.{Settings}
use Rattle.dav_model.specs.Finding.{Denies, EndsLoosely, empty_file, has_slash, is_localized, is_virtual, resolved, stood_at}
use Rattle.dav_model.specs.Head.{Stood}
use Rattle.dav_model.specs.Plans.{stands}
use Rattle.dav_model.specs.Rules.{IsSound, Knowledge, Rules}
use Rattle.dav_model.specs.Valid.{IsRegular, TellsApart}
use Rattle.dav_model.proofs.Denied.{denies_rightly}
use Rattle.dav_model.proofs.LooseWalks.{found_exactly, names_refl}
use Rattle.dav_walks.specs.Follows.{Finds as Found, LooksBy, Told}
use Rattle.dav_walks.specs.Pouring.{Writes}
use Rattle.dav_walks.proofs.trees.StandsAsBefore.{stands_same}
use Rattle.dav_memory.specs.Memory.{LearnsNothing, MemoryState}
use Rattle.dav_local.specs.declared.entry.LocalFsDirEntry.{LocalFsDirEntry}
use Rattle.dav_local.specs.declared.file.LocalFsFile.{LocalFsFile}
use Rattle.dav_local.specs.declared.gathering.LocalFsReadDir.{LocalFsReadDir}
use Rattle.dav_local.specs.declared.ways.Ways.{Ways}
use Rattle.dav_local.specs.Calls.{AfterAbsent, AfterFound, Looks, LooksAt, Place, TellsAbsent}
use Rattle.dav_local.specs.Files.{looked_as}
use Rattle.dav_local.specs.Resolving.{Leads, Resolves}
use Rattle.dav_local.specs.Shown.{finding_of, knowledge_of}
use Rattle.dav_local.specs.Ways.{rules_with}
use Rattle.dav_local.proofs.Allowed.{may_find}
use Rattle.dav_local.proofs.ByRules.{absent_why, denies_before, present, spoiled_by, spoiled_later, tells_keeps}
use Rattle.dav_local.proofs.Memories.{learns_then}
use Rattle.dav_local.proofs.EntriesTold.{clear_way}
use Rattle.dav_local_laws.proofs.PlainLooks.{both_with, finds_in}
use Rattle.dav_local_laws.specs.LocalStore.{IsLocalStore, place}

-- ---- what looks leave of the told world

abbrev pub Besides : DiskState → DiskState → Type 0
Besides s t = Both s.told t.told SameBesidesOpens

pub besides_then : (s m t : DiskState) → Besides s m → Besides m t → Besides s t
besides_then s m t p q = both_then s.told m.told t.told SameBesidesOpens SameBesidesOpens SameBesidesOpens same_besides_then p q

pub besides_same : (s t : DiskState) → t ≡ s → Besides s t
besides_same s t same = both_same s.told t.told SameBesidesOpens same_besides (ap (λ (d : DiskState). d.told) same)

-- ---- where a path is found

linked_same : (tree : List Row) (a b : Names) → a ≡ b → is_linked tree b ≡ false → is_linked tree a ≡ false
linked_same tree a b e f = ap (is_linked tree) e ∙ f

-- Where no two names fold alike, the place found is that of the rules.
pub found_there : (settings : Settings) (ways : Ways) (v : World) (names at : Names) → TellsApart (rules_with settings ways) v → is_linked v.tree (resolved (rules_with settings ways) v.tree names) ≡ false
    → Leads ways v.tree names at → at ≡ resolved (rules_with settings ways) v.tree names
found_there settings ways v names at apart free leads =
    let exact : leads.end ≡ resolved (rules_with settings ways) v.tree names = found_exactly (rules_with settings ways) v.tree names leads.end apart leads.loosely in
    leads.here (linked_same v.tree leads.end (resolved (rules_with settings ways) v.tree names) exact free) ∙ exact

-- ---- what stands where it was found

abbrev shown : Bool → Bool → Result Stood FsError → Result Stood FsError
shown virtual hidden stood = cond virtual (Ok empty_file) (cond (hidden || false) (Err fs.NotFound) stood)

-- the place is that of the rules, and the path isn't one of the files that stand for none
stands_at : (rules : Rules) (v : World) (path : WebPath) (at : Names) (hidden : Bool) → at ≡ resolved rules v.tree path.names → is_virtual rules path ≡ false → (rules.macos && is_localized at) ≡ hidden
    → stands rules v path ≡ cond (hidden || false) (Err fs.NotFound) (stood_at (has_slash rules.alone path) v (look v.tree at))
stands_at rules v path at hidden is plain here =
    ap (λ z. shown (is_virtual rules path) (rules.macos && is_localized z) (stood_at (has_slash rules.alone path) v (look v.tree z))) (sym is)
    ∙ (ap (λ b. shown b (rules.macos && is_localized at) (stood_at (has_slash rules.alone path) v (look v.tree at))) plain
    ∙ ap (λ b. shown false b (stood_at (has_slash rules.alone path) v (look v.tree at))) here)

-- what a sound memory denies isn't there
denied_missing : (settings : Settings) (ways : Ways) (k : Knowledge) (v : World) (names at : Names) (slash : Bool) → EndsLoosely ways.alone ways.folds v.tree names at → ways.macos ≡ true → IsSound k v
    → Denies k v.tree at → stood_at slash v (look v.tree at) ≡ Err fs.NotFound
denied_missing settings ways k v names at slash ends macos sound denies =
    denies_rightly (rules_with settings ways) k v (finding_of (rules_with settings ways) v (names, at) (names, at) (names, at) true)
    (may_find (rules_with settings ways) k v (names, at) (names, at) (names, at) true ends ends ends (λ e. (macos, denies))) (λ e. sound) at slash (names_refl at)

missing_by : (rules : Rules) (v : World) (path : WebPath) (at : Names) → at ≡ resolved rules v.tree path.names → is_virtual rules path ≡ false
    → ((rules.macos && is_localized at) ≡ true) ⊎ (stood_at (has_slash rules.alone path) v (look v.tree at) ≡ Err fs.NotFound) → stands rules v path ≡ Err fs.NotFound
missing_by rules v path at is plain (inl hidden) = stands_at rules v path at true is plain hidden
missing_by rules v path at is plain (inr none) = by (rules.macos && is_localized at) refl
  where
    by : (b : Bool) → (rules.macos && is_localized at) ≡ b → stands rules v path ≡ Err fs.NotFound
    by true e = stands_at rules v path at true is plain e
    by false e = stands_at rules v path at false is plain e ∙ none

virtual_finds : (rules : Rules) (v : World) (path : WebPath) (r : Result Info FsError) → is_virtual rules path ≡ true → r ≡ Ok empty_info → Found (stands rules v path) r
virtual_finds rules v path r virtual is =
    subst (Found (stands rules v path)) (sym is)
    (subst (λ there. Found there (Ok empty_info)) (sym (ap (λ b. shown b (rules.macos && is_localized (resolved rules v.tree path.names)) (stood_at (has_slash rules.alone path) v (look v.tree (resolved rules v.tree path.names)))) virtual))
    (record { kind = refl; modified = refl; tag = refl }))

module _ {S C : Type 0} (view : View S C LocalFsFile) (lists : Listings S C LocalFsReadDir LocalFsDirEntry) (writes : Writes LocalFsFile) (c : C) (ways : S → Ways) (memory : S → MemoryState) (moment : S → Moment)
    (local : IsLocalStore view lists writes ways memory moment) (settings : Settings) where
  abbrev at : S → Place
  at s = place view lists writes ways memory moment s

  abbrev rules : S → Rules
  rules m = rules_with settings (ways m)

  -- what a look finds by what the memory knew
  abbrev LooksAs : Knowledge → WebPath → S → Result Info FsError → S → World → World → Type 0
  LooksAs k path m r n v w = LooksBy view lists writes c (rules m) k path m r n v w

  module _ (follows : Bool) (m n : S) (path : WebPath) (r : Result Info FsError) (plain : is_virtual (rules m) path ≡ false) where
    abbrev slash : Bool
    slash = has_slash (ways m).alone path

    -- ---- it leaves the world

    after_besides : (absent : Result Bool Starved) (there : Names) (k : Place) → AfterAbsent absent follows slash there k r (at n) → Besides k.disk (view.state n)
    after_besides (Err x) there k (is, same) = besides_same k.disk (view.state n) (ap (λ (x : Place). x.disk) same)
    after_besides (Ok true) there k (is, same) = besides_same k.disk (view.state n) (ap (λ (x : Place). x.disk) same)
    after_besides (Ok false) there k (answer, t, metas, is, ends) =
        both_same k.disk.told (view.state n).told SameBesidesOpens same_besides (ap (λ (x : Place). x.disk.told) ends ∙ metas.world)

    found_besides : (found : Result Names FsError) (q : Place) → AfterFound found q (LooksAt follows slash) r (at n) → Besides q.disk (view.state n)
    found_besides (Err e) q (is, ends) = besides_same q.disk (view.state n) (ap (λ (x : Place). x.disk) ends)
    found_besides (Ok there) q (absent, k, tells, after) =
        besides_then q.disk k.disk (view.state n) (tells_keeps q k there absent tells).world (after_besides absent there k after)

    -- ---- what it finds

    abbrev Finds_or_spoiled : World → Type 0
    Finds_or_spoiled v = Found (stands (rules m) v path) r ⊎ Spoiled (view.state m) r (view.state n)

    module _ (v : World) (knew : MemoryState) (regular : IsRegular (rules m) (knowledge_of knew) v) (free : is_linked v.tree (resolved (rules m) v.tree path.names) ≡ false) where
      not_found : r ≡ Err fs.NotFound → stands (rules m) v path ≡ Err fs.NotFound → Finds_or_spoiled v
      not_found is missing = inl (subst (λ x. Found x r) (sym missing) (subst (Found (Err fs.NotFound)) (sym is) refl))

      -- the memory, or the rule on `.localized`, calls it absent
      absent_finds : (there : Names) (q k : Place) (u : World) → q.ways ≡ ways m → LearnsNothing knew q.memory → q.disk.told ≡ Some u → u.tree ≡ v.tree → there ≡ resolved (rules m) v.tree path.names
          → EndsLoosely (ways m).alone (ways m).folds v.tree path.names there → TellsAbsent q there (Ok true) k → r ≡ Err fs.NotFound → Finds_or_spoiled v
      absent_finds there q k u stays learns told same here ends tells is =
          let clear : is_linked u.tree there ≡ false = ap (λ (t : List Row). is_linked t there) same ∙ linked_same v.tree there (resolved (rules m) v.tree path.names) here free in
          not_found is (missing_by (rules m) v path there here plain (why (absent_why q k there u told clear tells)))
        where
          why : ((q.ways.macos && is_localized there) ≡ true) ⊎ ((q.ways.macos ≡ true) × Denies (knowledge_of q.memory) u.tree there)
              → (((rules m).macos && is_localized there) ≡ true) ⊎ (stood_at (has_slash (rules m).alone path) v (look v.tree there) ≡ Err fs.NotFound)
          why (inl hidden) = inl (ap (λ (w : Ways). w.macos && is_localized there) (sym stays) ∙ hidden)
          why (inr (macos, denies)) =
              let own : (ways m).macos ≡ true = ap (λ (w : Ways). w.macos) (sym stays) ∙ macos in
              inr (denied_missing settings (ways m) (knowledge_of knew) v path.names there slash ends own (regular.sound own)
              (denies_before knew q.memory v.tree there learns (subst (λ (t : List Row). Denies (knowledge_of q.memory) t there) same denies)))

      present_finds : (there : Names) (q k : Place) (x : World) → q.ways ≡ ways m → (view.state m).faults ≤ k.disk.faults → k.disk.told ≡ Some x → SameBesidesOpens v x
          → there ≡ resolved (rules m) v.tree path.names → TellsAbsent q there (Ok false) k → (answer : Result Meta DiskError) → MetasBy follows k.disk there answer (view.state n) → r ≡ looked_as slash answer
          → Finds_or_spoiled v
      present_finds there q k x stays le told same here tells answer metas is =
          let clear : is_linked x.tree there ≡ false = ap (λ (t : List Row). is_linked t there) same.tree ∙ linked_same v.tree there (resolved (rules m) v.tree path.names) here free in
          let shown_so : stands (rules m) x path ≡ stood_at slash x (look x.tree there) =
          stands_at (rules m) x path there false (here ∙ ap (λ (t : List Row). resolved (rules m) t path.names) (sym same.tree)) plain
          (ap (λ (w : Ways). w.macos && is_localized there) (sym stays) ∙ present q k there tells) in
          by (sym shown_so ∙ stands_same (rules m) v x path same) (finds_in slash x there answer k.disk (view.state n) (metas.told x told (clear_way follows x.tree there clear)) clear metas.asks.counted)
        where
          by : stood_at slash x (look x.tree there) ≡ stands (rules m) v path → Found (stood_at slash x (look x.tree there)) (looked_as slash answer) ⊎ Spoiled k.disk (looked_as slash answer) (view.state n)
              → Finds_or_spoiled v
          by e (inl finds) = inl (subst (λ y. Found y r) e (subst (Found (stood_at slash x (look x.tree there))) (sym is) finds))
          by e (inr spoiled) = inr (spoiled_later (view.state m) k.disk (view.state n) r le (subst (λ y. Spoiled k.disk y (view.state n)) (sym is) spoiled))

      after_finds : (absent : Result Bool Starved) (there : Names) (q k : Place) → (view.state m).told ≡ Some v → LearnsNothing knew (memory m) → Resolves (at m) path.names (Ok there) q
          → TellsAbsent q there absent k → AfterAbsent absent follows slash there k r (at n) → Finds_or_spoiled v
      after_finds (Err x) there q k told learns resolves tells (is, same) = inr (inr is)
      after_finds (Ok true) there q k told learns resolves tells (is, same) =
          let (u, now, kept) = told_after (view.state m).told q.disk.told SameBesidesOpens v resolves.keeps.world told in
          let leads = resolves.told v told in
          let here = found_there settings (ways m) v path.names there regular.apart free leads in
          let exact = found_exactly (rules m) v.tree path.names leads.end regular.apart leads.loosely in
          absent_finds there q k u resolves.ways (learns_then knew (memory m) q.memory learns resolves.learns) now kept.tree here
          (subst (EndsLoosely (ways m).alone (ways m).folds v.tree path.names) (exact ∙ sym here) leads.loosely) tells is
      after_finds (Ok false) there q k told learns resolves tells (answer, t, metas, is, ends) =
          let (u, now, kept) = told_after (view.state m).told q.disk.told SameBesidesOpens v resolves.keeps.world told in
          let keeps = tells_keeps q k there (Ok false) tells in
          let (x, after, still) = told_after q.disk.told k.disk.told SameBesidesOpens u keeps.world now in
          let here = found_there settings (ways m) v path.names there regular.apart free (resolves.told v told) in
          let more : q.disk.faults ≤ k.disk.faults = keeps.counts in
          let first : (view.state m).faults ≤ q.disk.faults = resolves.keeps.counts in
          present_finds there q k x resolves.ways (omega (arith, more, first)) after (same_besides_then v u x kept still) here tells answer
          (subst (λ d. MetasBy follows k.disk there answer d) (sym (ap (λ (x : Place). x.disk) ends)) metas) is

      found_finds : (found : Result Names FsError) (q : Place) → (view.state m).told ≡ Some v → LearnsNothing knew (memory m) → Resolves (at m) path.names found q
          → AfterFound found q (LooksAt follows slash) r (at n) → Finds_or_spoiled v
      found_finds (Err e) q told learns resolves (is, ends) =
          inr (subst (λ (d : DiskState). Spoiled (view.state m) r d) (sym (ap (λ (x : Place). x.disk) ends))
          (spoiled_by (view.state m) (view.state m) q.disk e r (omega arith) is resolves.refused))
      found_finds (Ok there) q told learns resolves (absent, k, tells, after) = after_finds absent there q k told learns resolves tells after

  looks_by : (follows : Bool) (m n : S) (path : WebPath) (r : Result Info FsError) (knew : MemoryState) → LearnsNothing knew (memory m) → Looks follows (at m) path r (at n)
      → Told view lists writes c m n (LooksAs (knowledge_of knew) path m r n)
  looks_by follows m n path r knew learns looks = by (is_virtual (rules m) path) refl
    where
      by : (b : Bool) → is_virtual (rules m) path ≡ b → Told view lists writes c m n (LooksAs (knowledge_of knew) path m r n)
      by true e =
          let (is, same) = looks.empty e in
          both_same (view.state m).told (view.state n).told (LooksAs (knowledge_of knew) path m r n)
          (λ w. (same_besides w, λ regular free. inl (virtual_finds (rules m) w path r e is))) (ap (λ (x : Place). x.disk.told) same)
      by false e =
          let (found, q, resolves, after) = looks.asked e in
          both_with (view.state m).told (view.state n).told SameBesidesOpens (LooksAs (knowledge_of knew) path m r n)
          (besides_then (view.state m) q.disk (view.state n) resolves.keeps.world (found_besides follows m n path r e found q after))
          (λ v w told now same. (same, λ regular free. found_finds follows m n path r e v knew regular free found q told learns resolves after))

  pub look_told : (m n : S) (path : WebPath) (r : Result Info FsError) (knew : MemoryState) → LearnsNothing knew (memory m) → view.looks m c path r n
      → Told view lists writes c m n (LooksAs (knowledge_of knew) path m r n)
  look_told m n path r knew learns h = looks_by true m n path r knew learns (local.looks m n c path r h).0

  pub look_at_link_told : (m n : S) (path : WebPath) (r : Result Info FsError) (knew : MemoryState) → LearnsNothing knew (memory m) → view.looks_at_link m c path r n
      → Told view lists writes c m n (LooksAs (knowledge_of knew) path m r n)
  look_at_link_told m n path r knew learns h = looks_by false m n path r knew learns (local.looks_at_link m n c path r h).0
