-- Each look and each opening of a local store is answered by the rules.
use Rattle.std.proofs.Common.{◌≡◌, ◌==◌, ◌&&◌, ◌||◌, ◌≤◌, ◌<◌, ◌⊎◌, inl, inr, ℕ, Bool, true, false, cond, codes, List, [], ◌∷◌, ◌++◌, length, Option, None, Some, Result, Ok, Err, IsOk, refl, sym, ap, subst, ◌∙◌, arith}
use Rattle.std.specs.Option.{option_map}
use Rattle.std.specs.Str.{bytes_eq}
use Rattle.std.proofs.lemmas.Bool.{and_parts, cases_Bool, false_from_ne_true, eqb-true, or_left, or_right, and_right}
use Rattle.dav_io.specs.declared.failure.NoMemory.{NoMemory as Starved}
use Rattle.dav_io.proofs.ToldLemmas.{told_after}
use Rattle.dav_core.specs.declared.error.FsError.{FsError}
use Rattle.dav_core.specs.declared.error.FsError.TheVariants as fs
use Rattle.dav_core.specs.declared.handle.DiskError.{DiskError}
use Rattle.dav_core.specs.declared.handle.DiskError.TheVariants as disk
use Rattle.dav_core.specs.declared.handle.Lister.{Lister}
use Rattle.dav_core.specs.declared.handle.Meta.{Meta}
use Rattle.dav_core.specs.declared.time.FileTime.{FileTime}
use Rattle.dav_core.specs.declared.member.Member.{Member}
use Rattle.dav_core.specs.declared.tree.Kind.{Kind}
use Rattle.dav_core.specs.declared.tree.Row.{Row}
use Rattle.dav_core.specs.DavPath.{WebPath, last_name}
use Rattle.dav_core.specs.Disk.{DiskState, IsCounted, Live, Metas, Opens, Refused}
use Rattle.dav_core.specs.Info.{Info}
use Rattle.dav_core.specs.Listing.{ListedIn, Lists, listable, or_empty}
use Rattle.dav_core.specs.Errors.{fs_error_of}
use Rattle.dav_core.specs.Writing.{reading}
use Rattle.dav_core.specs.Path.{Names, parent_of}
use Rattle.dav_core.specs.Tree.{is_dir, is_linked, look}
use Rattle.dav_core.specs.Unchanged.{Keeps, SameBesidesOpens}
use Rattle.dav_core.specs.World.{IsWorld, OpenFile, World, bytes_of}
use Rattle.dav_core.proofs.UnchangedLemmas.{keeps_same, keeps_then}
use Rattle.dav_store.specs.Files.{Spoiled}
use Rattle.dav_store.specs.declared.entry.ReadDirMeta.{ReadDirMeta}
use Rattle.dav_store.specs.Members.{BeginsThere}
use Rattle.dav_store.specs.Shows.{LooksThere, OpensThere}
use Rattle.dav_store.specs.Standing.{Seen}
use Rattle.dav_store.specs.Void.{empty_info}
use Rattle.dav_store.proofs.Reading.{rose_from}
use Rattle.dav_memory.specs.Builder.{BuilderState}
use Rattle.dav_memory.specs.Memory as cache
use Rattle.dav_memory.specs.Memory.{Denied, LearnsNothing, MemoryState}
use Rattle.dav_model.specs.Finding.{Denies, EndsLoosely, has_slash, is_localized, is_named, is_virtual, listed_in, members_or}
use Rattle.dav_model.specs.Folds.{Name, dir_time, dir_time_of, is_dot}
use Rattle.dav_model.specs.Rules.{MayDeny, nothing_known}
use Rattle.dav_model.proofs.LooseWalks.{exactly_may}
use Rattle.dav_model.proofs.PlainWalks.{linked_below}
use Rattle.dav_local.specs.declared.file.LocalFsFile.{LocalFsFile}
use Rattle.dav_local.specs.Calls.{AfterFound, Asks, BeginsAt, Finds, IsOpening, Looks, LooksAt, AfterAbsent, Place, TellsAbsent, asks_memory, is_shut}
use Rattle.dav_local.specs.Files.{filed, looked_as, seen_by}
use Rattle.dav_local.specs.Gathering.{BeginsDir, LocalFsReadDir, dir_with, gathers}
use Rattle.dav_local.specs.Listing.{ListingState, dir_of}
use Rattle.dav_local.specs.Resolving.{Leads, Resolves}
use Rattle.dav_local.specs.Shown.{ListsByRules, LooksByRules, OpensByRules, empty_standing, knowledge_of, looked_by, opened_by}
use Rattle.dav_local.specs.Standing.{found, seen_in, seen_with}
use Rattle.dav_local.specs.Ways.{Ways, resolved_by, rules_of}
use Rattle.dav_local.proofs.Keeping.{asked_keeps, metas_keep}
use Rattle.dav_local.proofs.Memories.{denied_before}
use Rattle.dav_local.proofs.Rows.{not_both, splits}
use Rattle.dav_local.proofs.Showing.{looks_there, opens_there}

option_bytes : (w : World) (kind : Kind) (o : Option OpenFile) (f : Seen) → option_map (seen_in w kind) o ≡ Some f → f.stands.bytes ≡ bytes_of w f.stands.number
option_bytes w kind None f e = cc
option_bytes w kind (Some o) f e = let g : seen_in w kind o ≡ f = cc in rw (← g) refl

bytes_with : (w : World) (live : Option Live) (h : ℕ) (f : Seen) → seen_with (Some w) live h ≡ Some f → f.stands.bytes ≡ bytes_of w f.stands.number
bytes_with w None h f e = cc
bytes_with w (Some l) h f e = option_bytes w l.kind (w.opens h) f e

-- an open file has the bytes of its number
pub bytes_seen : (file : LocalFsFile) (s : DiskState) (w : World) (f : Seen) → s.told ≡ Some w → seen_by file s ≡ Some f → f.stands.bytes ≡ bytes_of w f.stands.number
bytes_seen file s w f told e = bytes_with w (s.live file.handle.0) file.handle.0 f (ap (λ told. seen_with told (s.live file.handle.0) file.handle.0) (sym told) ∙ e)

-- ---- whether a path is called absent

-- What asks whether a path is absent leaves all of the disk as it was.
pub tells_keeps : (p q : Place) (at : Names) (r : Result Bool Starved) → TellsAbsent p at r q → Keeps p.disk q.disk
tells_keeps p q at (Err e) tells = subst (λ (x : Place). Keeps p.disk x.disk) (sym tells.starved) (keeps_same p.disk)
tells_keeps p q at (Ok b) tells = elim (cases_Bool (asks_memory p.ways at)) [
  | inl asks ↦ asked_keeps p.disk q.disk (tells.dots asks).asks
  | inr none ↦ subst (λ (x : Place). Keeps p.disk x.disk) (sym (tells.plain none).0) (keeps_same p.disk)
]

no_dot : (x y : Bool) → (x && (false && y)) ≡ false
no_dot true y = refl
no_dot false y = refl

dot_apart : (name : Name) → is_dot name ≡ true → bytes_eq name (codes ".localized") ≡ false
dot_apart [] dot = cc
dot_apart (a ∷ []) dot = cc
dot_apart (a ∷ b ∷ rest) dot =
    let second : b ≡ 95 = eqb-true b 95 (and_parts (a == 46) (b == 95) dot).1 in
    rw second (no_dot (a == 46) (bytes_eq rest (codes "ocalized")))

-- a name that begins with `._` isn't `.localized`
not_localized : (at : Names) → is_dot (or_empty (last_name at)) ≡ true → is_localized at ≡ false
not_localized at dot = by_last (last_name at) dot
  where
    by_last : (last : Option Name) → is_dot (or_empty last) ≡ true → is_named (codes ".localized") last ≡ false
    by_last None dot = refl
    by_last (Some last) dot = dot_apart last dot

ok_same : (a b : Bool) → ◌≡◌ {A = Result Bool Starved} (Ok a) (Ok b) → a ≡ b
ok_same a b e = cc

-- a path that isn't called absent isn't `.localized`
pub present : (p q : Place) (at : Names) → TellsAbsent p at (Ok false) q → (p.ways.macos && is_localized at) ≡ false
present p q at tells = elim (cases_Bool (asks_memory p.ways at)) [
  | inl asks ↦ and_right p.ways.macos (is_localized at) (not_localized at (and_parts p.ways.macos (is_dot (or_empty (last_name at))) asks).1)
  | inr none ↦ sym (ok_same false (p.ways.macos && is_localized at) (tells.plain none).1)
]

clear_above : (tree : List Row) (dir : Names) (name : Name) → is_linked tree (dir ++ name ∷ []) ≡ false → is_linked tree dir ≡ false
clear_above tree dir name clear = false_from_ne_true (is_linked tree dir) (λ linked. not_both (is_linked tree (dir ++ name ∷ [])) (linked_below tree dir (name ∷ []) linked) clear)

some_time : (a b : FileTime) → ◌≡◌ {A = Option FileTime} (Some a) (Some b) → a ≡ b
some_time a b e = cc

timed : (tree : List Row) (dir : Names) (time : FileTime) (row : Row) → look tree dir ≡ Ok row → is_dir row.kind ≡ true → row.time ≡ time → dir_time tree dir ≡ Some time
timed tree dir time row stands kind same = ap dir_time_of stands ∙ ap (λ b. cond b (Some row.time) None) kind ∙ ap (λ t. Some t) same

some_names : (at : Names) → is_dot (or_empty (last_name at)) ≡ true → 0 < length at
some_names [] dot = cc
some_names (x ∷ at) dot = omega arith

swapped : (m : MemoryState) (dir : Names) (time : FileTime) (name : Name) → cache.MayDeny m dir time name → MayDeny (knowledge_of m) dir time name
swapped m dir time name (inl known) = inr known
swapped m dir time name (inr open_at) = inl open_at

-- What the memory denies, it may deny.
denied_by : (memory : MemoryState) (s t : DiskState) (v : World) (at : Names) → s.told ≡ Some v → is_linked v.tree at ≡ false → is_dot (or_empty (last_name at)) ≡ true
    → Denied memory (parent_of at) (or_empty (last_name at)) s t → Denies (knowledge_of memory) v.tree at
denied_by memory s t v at told clear dot (meta, time, metas, dir, modified, may) =
    let is = splits at (some_names at dot) in
    let above = clear_above v.tree (parent_of at) (or_empty (last_name at)) (ap (is_linked v.tree) (sym is) ∙ clear) in
    let (row, stands, same) = metas.told v told above in
    record {
      dir = parent_of at;
      name = or_empty (last_name at);
      is = is;
      dot = dot;
      time = time;
      there = timed v.tree (parent_of at) time row stands (ap is_dir (sym same.kind) ∙ dir) (some_time row.time time (sym same.modified ∙ modified));
      may = swapped memory (parent_of at) time (or_empty (last_name at)) may;
    }

-- A path that is called absent is `.localized`, or the memory may deny it.
pub absent_why : (p q : Place) (at : Names) (v : World) → p.disk.told ≡ Some v → is_linked v.tree at ≡ false → TellsAbsent p at (Ok true) q
    → ((p.ways.macos && is_localized at) ≡ true) ⊎ ((p.ways.macos ≡ true) × Denies (knowledge_of p.memory) v.tree at)
absent_why p q at v told clear tells = elim (cases_Bool (asks_memory p.ways at)) [
  | inl asks ↦
      let (macos, dot) = and_parts p.ways.macos (is_dot (or_empty (last_name at))) asks in
      inr (macos, denied_by p.memory p.disk q.disk v at told clear dot ((tells.dots asks).denied refl))
  | inr none ↦ inl (sym (ok_same true (p.ways.macos && is_localized at) (tells.plain none).1))
]

swapped_back : (m : MemoryState) (dir : Names) (time : FileTime) (name : Name) → MayDeny (knowledge_of m) dir time name → cache.MayDeny m dir time name
swapped_back m dir time name (inl open_at) = inr open_at
swapped_back m dir time name (inr known) = inl known

-- What is denied by a memory that learned nothing might be denied before.
pub denies_before : (a b : MemoryState) (tree : List Row) (at : Names) → LearnsNothing a b → Denies (knowledge_of b) tree at → Denies (knowledge_of a) tree at
denies_before a b tree at learns denies = record {
  dir = denies.dir;
  name = denies.name;
  is = denies.is;
  dot = denies.dot;
  time = denies.time;
  there = denies.there;
  may = swapped a denies.dir denies.time denies.name
      (denied_before a b denies.dir denies.time denies.name learns (swapped_back b denies.dir denies.time denies.name denies.may));
}

why_before : (p m : Place) (at : Names) (v : World) → m.ways ≡ p.ways → LearnsNothing p.memory m.memory
    → ((m.ways.macos && is_localized at) ≡ true) ⊎ ((m.ways.macos ≡ true) × Denies (knowledge_of m.memory) v.tree at)
    → ((p.ways.macos && is_localized at) ≡ true) ⊎ ((p.ways.macos ≡ true) × Denies (knowledge_of p.memory) v.tree at)
why_before p m at v ways learns (inl localized) = inl (ap (λ (x : Ways). x.macos && is_localized at) (sym ways) ∙ localized)
why_before p m at v ways learns (inr (macos, denies)) = inr (ap (λ (x : Ways). x.macos) (sym ways) ∙ macos, denies_before p.memory m.memory v.tree at learns denies)

-- ---- looks

pub spoiled_by : {T U : Type 0} (s m t : DiskState) (e : FsError) (r : Result U FsError) → s.faults ≤ m.faults → r ≡ Err e → Spoiled {T = T} m (Err e) t → Spoiled s r t
spoiled_by s m t e r le is (inl (general, rose)) = inl (is ∙ (let f : e ≡ fs.GeneralFailure = cc in ap (λ x. Err x) f), rose_from s.faults m.faults t.faults le rose)
spoiled_by s m t e r le is (inr none) = inr (is ∙ (let f : e ≡ fs.NoMemory = cc in ap (λ x. Err x) f))

pub spoiled_later : {T : Type 0} (s m t : DiskState) (r : Result T FsError) → s.faults ≤ m.faults → Spoiled m r t → Spoiled s r t
spoiled_later s m t r le (inl (is, rose)) = inl (is, rose_from s.faults m.faults t.faults le rose)
spoiled_later s m t r le (inr none) = inr none

-- where nothing of the place is asked
somewhere : (ways : Ways) (tree : List Row) (names : Names) → EndsLoosely ways.alone ways.folds tree names (resolved_by ways tree names)
somewhere ways tree names = (exactly_may (rules_of ways) nothing_known tree).looks names

looked_absent : (ways : Ways) (w : World) (end : Names) (denies : Bool) (path : WebPath) → is_virtual (rules_of ways) path ≡ false → ((ways.macos && is_localized end) || denies) ≡ true
    → looked_by ways w end denies path ≡ Err fs.NotFound
looked_absent ways w end denies path plain absent =
    ap (λ b. cond b (Ok empty_standing) (cond ((ways.macos && is_localized end) || denies) (Err fs.NotFound) (found w (has_slash ways.alone path) (look w.tree end)))) plain
    ∙ ap (λ b. cond b (Err fs.NotFound) (found w (has_slash ways.alone path) (look w.tree end))) absent

looked_found : (ways : Ways) (w : World) (end : Names) (path : WebPath) → is_virtual (rules_of ways) path ≡ false → (ways.macos && is_localized end) ≡ false
    → looked_by ways w end false path ≡ found w (has_slash ways.alone path) (look w.tree end)
looked_found ways w end path plain here =
    ap (λ b. cond b (Ok empty_standing) (cond ((ways.macos && is_localized end) || false) (Err fs.NotFound) (found w (has_slash ways.alone path) (look w.tree end)))) plain
    ∙ ap (λ b. cond (b || false) (Err fs.NotFound) (found w (has_slash ways.alone path) (look w.tree end))) here

abbrev Looked : Place → World → WebPath → Result Info FsError → Place → Type 0
Looked p w path result q = LooksByRules p.ways (knowledge_of p.memory) w path p.disk result q.disk

-- what is refused because of a fault or want of memory, wherever the path ends
looked_spoiled : (p q : Place) (w : World) (path : WebPath) (result : Result Info FsError) → Spoiled p.disk result q.disk → Looked p w path result q
looked_spoiled p q w path result spoiled = record {
  end = resolved_by p.ways w.tree path.names;
  loosely = somewhere p.ways w.tree path.names;
  denies = false;
  denied = λ e. cc;
  shows = λ clear. inr spoiled;
}

looked_missing : (p m n q : Place) (w v : World) (path : WebPath) (at : Names) (result : Result Info FsError) → is_virtual (rules_of p.ways) path ≡ false
    → Leads p.ways w.tree path.names at → m.ways ≡ p.ways → LearnsNothing p.memory m.memory → m.disk.told ≡ Some v → v.tree ≡ w.tree → TellsAbsent m at (Ok true) n → result ≡ Err fs.NotFound
    → Looked p w path result q
looked_missing p m n q w v path at result plain leads ways learns told tree tells is = by_link (is_linked w.tree leads.end) refl
  where
    missing : (denies : Bool) → ((p.ways.macos && is_localized leads.end) || denies) ≡ true → LooksThere (looked_by p.ways w leads.end denies path) result
    missing denies absent =
        subst (λ r. LooksThere (looked_by p.ways w leads.end denies path) r) (sym is)
        (subst (λ there. LooksThere there (Err fs.NotFound)) (sym (looked_absent p.ways w leads.end denies path plain absent)) refl)

    by_why : is_linked w.tree leads.end ≡ false → at ≡ leads.end
        → ((p.ways.macos && is_localized at) ≡ true) ⊎ ((p.ways.macos ≡ true) × Denies (knowledge_of p.memory) v.tree at) → Looked p w path result q
    by_why clear here (inl localized) = record {
      end = leads.end;
      loosely = leads.loosely;
      denies = false;
      denied = λ e. cc;
      shows = λ c. inl (missing false (or_left (p.ways.macos && is_localized leads.end) false (ap (λ z. p.ways.macos && is_localized z) (sym here) ∙ localized)));
    }
    by_why clear here (inr (macos, denies)) = record {
      end = leads.end;
      loosely = leads.loosely;
      denies = true;
      denied = λ e. (macos, subst (λ z. Denies (knowledge_of p.memory) w.tree z) here (subst (λ z. Denies (knowledge_of p.memory) z at) tree denies));
      shows = λ c. inl (missing true (or_right (p.ways.macos && is_localized leads.end) true refl));
    }

    by_link : (b : Bool) → is_linked w.tree leads.end ≡ b → Looked p w path result q
    by_link true linked = record { end = leads.end; loosely = leads.loosely; denies = false; denied = λ e. cc; shows = λ clear. not_both (is_linked w.tree leads.end) linked clear }
    by_link false clear =
        let here = leads.here clear in
        by_why clear here (why_before p m at v ways learns (absent_why m n at v told (ap (λ z. is_linked z at) tree ∙ ap (is_linked w.tree) here ∙ clear) tells))

looked_at : (p m n q : Place) (w v : World) (path : WebPath) (at : Names) (answer : Result Meta DiskError) (t : DiskState) (result : Result Info FsError)
    → is_virtual (rules_of p.ways) path ≡ false → Leads p.ways w.tree path.names at → m.ways ≡ p.ways → SameBesidesOpens w v → n.disk.told ≡ Some v → p.disk.faults ≤ n.disk.faults
    → TellsAbsent m at (Ok false) n → Metas n.disk at answer t → result ≡ looked_as (has_slash p.ways.alone path) answer → q.disk ≡ t → Looked p w path result q
looked_at p m n q w v path at answer t result plain leads ways same told le tells metas is ends = record {
  end = leads.end;
  loosely = leads.loosely;
  denies = false;
  denied = λ e. cc;
  shows = shows;
}
  where
    there : is_linked w.tree leads.end ≡ false → LooksThere (looked_by p.ways w leads.end false path) result ⊎ Spoiled n.disk result t
    there clear =
        let here = leads.here clear in
        let local : (p.ways.macos && is_localized leads.end) ≡ false = ap (λ z. p.ways.macos && is_localized z) (sym here) ∙ ap (λ (x : Ways). x.macos && is_localized at) (sym ways) ∙ present m n at tells in
        let found_so : found w (has_slash p.ways.alone path) (look w.tree at) ≡ looked_by p.ways w leads.end false path =
        ap (λ z. found w (has_slash p.ways.alone path) (look w.tree z)) here ∙ sym (looked_found p.ways w leads.end path plain local) in
        subst (λ r. LooksThere (looked_by p.ways w leads.end false path) r ⊎ Spoiled n.disk r t) (sym is)
        (subst (λ x. LooksThere x (looked_as (has_slash p.ways.alone path) answer) ⊎ Spoiled n.disk (looked_as (has_slash p.ways.alone path) answer) t) found_so
        (looks_there w v at (has_slash p.ways.alone path) answer n.disk t same told (ap (is_linked w.tree) here ∙ clear) metas))

    shows : is_linked w.tree leads.end ≡ false → LooksThere (looked_by p.ways w leads.end false path) result ⊎ Spoiled p.disk result q.disk
    shows clear = elim (there clear) [ inl x ↦ inl x | inr spoiled ↦ inr (subst (λ d. Spoiled p.disk result d) (sym ends) (spoiled_later p.disk n.disk t result le spoiled)) ]

after_absent : (p m n q : Place) (w v u : World) (path : WebPath) (at : Names) (absent : Result Bool Starved) (result : Result Info FsError) → is_virtual (rules_of p.ways) path ≡ false
    → Leads p.ways w.tree path.names at → m.ways ≡ p.ways → LearnsNothing p.memory m.memory → Keeps p.disk m.disk → Keeps m.disk n.disk → m.disk.told ≡ Some v → v.tree ≡ w.tree
    → SameBesidesOpens w u → n.disk.told ≡ Some u → TellsAbsent m at absent n → AfterAbsent absent true (has_slash p.ways.alone path) at n result q → Looked p w path result q
after_absent p m n q w v u path at (Err e) result plain leads ways learns first then_kept told tree same later tells (is, ends) = looked_spoiled p q w path result (inr is)
after_absent p m n q w v u path at (Ok true) result plain leads ways learns first then_kept told tree same later tells (is, ends) =
    looked_missing p m n q w v path at result plain leads ways learns told tree tells is
after_absent p m n q w v u path at (Ok false) result plain leads ways learns first then_kept told tree same later tells (answer, t, metas, is, ends) =
    looked_at p m n q w u path at answer t result plain leads ways same later (omega (arith, first.counts, then_kept.counts)) tells metas is (ap (λ (x : Place). x.disk) ends)

looked_in : (p m q : Place) (w : World) (path : WebPath) (found_at : Result Names FsError) (result : Result Info FsError) → p.disk.told ≡ Some w → is_virtual (rules_of p.ways) path ≡ false
    → Resolves p path.names found_at m → AfterFound found_at m (LooksAt true (has_slash p.ways.alone path)) result q → Looked p w path result q
looked_in p m q w path (Err e) result told plain resolves (is, ends) =
    looked_spoiled p q w path result (subst (λ (x : Place). Spoiled p.disk result x.disk) (sym ends) (spoiled_by p.disk p.disk m.disk e result (omega arith) is resolves.refused))
looked_in p m q w path (Ok at) result told plain resolves (absent, n, tells, after) =
    let kept = tells_keeps m n at absent tells in
    let (v, now, same) = told_after p.disk.told m.disk.told SameBesidesOpens w resolves.keeps.world told in
    let all = keeps_then p.disk m.disk n.disk resolves.keeps kept in
    let (u, later, other) = told_after p.disk.told n.disk.told SameBesidesOpens w all.world told in
    after_absent p m n q w v u path at absent result plain (resolves.told w told) resolves.ways resolves.learns resolves.keeps kept now same.tree other later tells after

-- Each look is answered by the rules.
pub looks_by_rules : (p q : Place) (w : World) (path : WebPath) (result : Result Info FsError) → p.disk.told ≡ Some w → Looks true p path result q → Looked p w path result q
looks_by_rules p q w path result told looks = by_virtual (is_virtual (rules_of p.ways) path) refl
  where
    by_virtual : (b : Bool) → is_virtual (rules_of p.ways) path ≡ b → Looked p w path result q
    by_virtual true e = record {
      end = resolved_by p.ways w.tree path.names;
      loosely = somewhere p.ways w.tree path.names;
      denies = false;
      denied = λ f. cc;
      shows = λ clear. inl (subst (λ r. LooksThere (looked_by p.ways w (resolved_by p.ways w.tree path.names) false path) r) (sym (looks.empty e).0)
          (subst (λ there. LooksThere there (Ok empty_info)) (sym (virtual e)) (record { kind = refl; len = refl; modified = refl; tag = refl })));
    }
      where
        virtual : is_virtual (rules_of p.ways) path ≡ true → looked_by p.ways w (resolved_by p.ways w.tree path.names) false path ≡ Ok empty_standing
        virtual e = ap (λ b. cond b (Ok empty_standing) (cond ((p.ways.macos && is_localized (resolved_by p.ways w.tree path.names)) || false) (Err fs.NotFound)
            (found w (has_slash p.ways.alone path) (look w.tree (resolved_by p.ways w.tree path.names))))) e
    by_virtual false e = let (found_at, m, resolves, after) = looks.asked e in looked_in p m q w path found_at result told e resolves after

-- ---- openings

abbrev Opened : Place → World → WebPath → Result LocalFsFile FsError → Place → Type 0
Opened p w path result q = OpensByRules p.ways w path p.disk result q.disk

opened_shut : (ways : Ways) (w : World) (end : Names) (path : WebPath) (b : Bool) → is_shut ways path ≡ b → opened_by ways w end path ≡ cond b (Err fs.Forbidden) (found w false (look w.tree end))
opened_shut ways w end path b e = ap (λ b. cond b (Err fs.Forbidden) (found w false (look w.tree end))) e

opened_in : (p m q : Place) (w : World) (path : WebPath) (found_at : Result Names FsError) (result : Result LocalFsFile FsError) → p.disk.told ≡ Some w → IsWorld w
    → is_shut p.ways path ≡ false → Resolves p path.names found_at m
    → AfterFound found_at m (λ at. Asks (λ s answer t. Opens s at reading answer t) filed) result q → Opened p w path result q
opened_in p m q w path (Err e) result told world open_at resolves (is, ends) = record {
  end = resolved_by p.ways w.tree path.names;
  loosely = somewhere p.ways w.tree path.names;
  shows = λ clear. inr (subst (λ (x : Place). Spoiled p.disk result x.disk) (sym ends) (spoiled_by p.disk p.disk m.disk e result (omega arith) is resolves.refused));
}
opened_in p m q w path (Ok at) result told world open_at resolves (answer, t, opens, is, ends) =
    let leads = resolves.told w told in
    let (v, now, same) = told_after p.disk.told m.disk.told SameBesidesOpens w resolves.keeps.world told in
    record {
      end = leads.end;
      loosely = leads.loosely;
      shows = λ clear. shows leads clear v now same;
    }
  where
    shows : (leads : Leads p.ways w.tree path.names at) → is_linked w.tree leads.end ≡ false → (v : World) → m.disk.told ≡ Some v → SameBesidesOpens w v
        → OpensThere seen_by (opened_by p.ways w leads.end path) result q.disk ⊎ Spoiled p.disk result q.disk
    shows leads clear v now same =
        let here = leads.here clear in
        let found_so : found w false (look w.tree at) ≡ opened_by p.ways w leads.end path = ap (λ z. found w false (look w.tree z)) here ∙ sym (opened_shut p.ways w leads.end path false open_at) in
        let ended : q.disk ≡ t = ap (λ (x : Place). x.disk) ends in
        elim (opens_there w v at answer m.disk t world same now (ap (is_linked w.tree) here ∙ clear) opens) [
          | inl x ↦ inl (subst (λ d. OpensThere seen_by (opened_by p.ways w leads.end path) result d) (sym ended)
              (subst (λ r. OpensThere seen_by (opened_by p.ways w leads.end path) r t) (sym is) (subst (λ there. OpensThere seen_by there (filed answer) t) found_so x)))
          | inr spoiled ↦ inr (subst (λ d. Spoiled p.disk result d) (sym ended) (spoiled_later p.disk m.disk t result resolves.keeps.counts (subst (λ r. Spoiled m.disk r t) (sym is) spoiled)))
        ]

-- Each opening for reading is answered by the rules.
pub opens_by_rules : (p q : Place) (w : World) (path : WebPath) (result : Result LocalFsFile FsError) → p.disk.told ≡ Some w → IsWorld w → IsOpening p path reading result q → Opened p w path result q
opens_by_rules p q w path result told world opening = by_shut (is_shut p.ways path) refl
  where
    by_shut : (b : Bool) → is_shut p.ways path ≡ b → Opened p w path result q
    by_shut true e = record {
      end = resolved_by p.ways w.tree path.names;
      loosely = somewhere p.ways w.tree path.names;
      shows = λ clear. inl (subst (λ r. OpensThere seen_by (opened_by p.ways w (resolved_by p.ways w.tree path.names) path) r q.disk) (sym (opening.forbidden e).0)
          (subst (λ there. OpensThere {F = LocalFsFile} seen_by there (Err fs.Forbidden) q.disk) (sym (opened_shut p.ways w (resolved_by p.ways w.tree path.names) path true e)) refl));
    }
    by_shut false e = let (found_at, m, resolves, after) = opening.asked e in opened_in p m q w path found_at result told world e resolves after

-- ---- listings

abbrev Listed : Place → World → WebPath → Result LocalFsReadDir FsError → Place → Type 0
Listed p w path result q = ListsByRules p.ways w path p.disk result q.disk

members_there : (w : World) (dir : Names) (stands : Result Row DiskError) (d : ListingState) → IsOk stands → BeginsThere (members_or w dir stands) (Ok d)
members_there w dir (Ok row) d listed = tt
members_there w dir (Err e) d listed = cc

refused_there : (e : DiskError) (w : World) (dir : Names) (stands : Result Row DiskError) (s t : DiskState) → Refused e stands → IsCounted {T = Lister} (Err e) s t
    → BeginsThere {L = ListingState} (members_or w dir stands) (Err (fs_error_of e)) ⊎ Spoiled {T = ListingState} s (Err (fs_error_of e)) t
refused_there disk.NotFound w dir stands s t r counted = inl (rw r refl)
refused_there disk.NotDir w dir stands s t r counted = inl (rw r refl)
refused_there disk.IsDir w dir stands s t r counted = inl (rw r refl)
refused_there disk.Exists w dir stands s t r counted = inl (rw r refl)
refused_there disk.NotEmpty w dir stands s t r counted = inl (rw r refl)
refused_there disk.Failed w dir stands s t r counted = inr (inl (refl, counted.rose refl))
refused_there disk.NoMemory w dir stands s t r counted = inr (inr refl)

begins_there : (v : World) (at : Names) (wanted : ReadDirMeta) (answer : Result Lister DiskError) (s t : DiskState) → s.told ≡ Some v → is_linked v.tree at ≡ false → Lists s at answer t
    → BeginsThere (members_or v at (listable (look v.tree at))) (dir_of at wanted answer) ⊎ Spoiled s (dir_of at wanted answer) t
begins_there v at wanted (Ok lister) s t told clear lists =
    let (x, now, listed) = told_after s.told t.told (ListedIn at (Ok lister)) v lists.told told in
    inl (members_there v at (listable (look v.tree at)) (record { lister = lister; path = at; wanted = wanted; batch = []; refused = None; over = false }) (listed.2 clear).0)
begins_there v at wanted (Err e) s t told clear lists =
    let (x, now, listed) = told_after s.told t.told (ListedIn at (Err e)) v lists.told told in
    refused_there e v at (listable (look v.tree at)) s t (listed.1 clear) lists.counted

-- whether a listing is begun doesn't ask what is open
pub begun_by : {L : Type 0} (w v : World) (at : Names) (stands : Result Row DiskError) (r : Result L FsError) → BeginsThere (members_or v at stands) r → BeginsThere (members_or w at stands) r
begun_by w v at (Ok row) (Ok d) there = tt
begun_by w v at (Ok row) (Err e) there = absurd there
begun_by w v at (Err e) (Ok d) there = absurd there
begun_by w v at (Err e) (Err f) there = there

-- the same, whatever is gathered from it
begun_with : (builder : Option BuilderState) (found : Result (List Member) FsError) (r : Result ListingState FsError) (s t : DiskState) → BeginsThere found r ⊎ Spoiled s r t
    → BeginsThere found (dir_with builder r) ⊎ Spoiled s (dir_with builder r) t
begun_with builder (Ok all) (Ok d) s t there = inl tt
begun_with builder (Err e) (Ok d) s t (inl never) = absurd never
begun_with builder (Err e) (Ok d) s t (inr (inl (is, rose))) = cc
begun_with builder (Err e) (Ok d) s t (inr (inr is)) = cc
begun_with builder (Ok all) (Err f) s t (inl never) = absurd never
begun_with builder (Err e) (Err f) s t (inl there) = inl there
begun_with builder found (Err f) s t (inr (inl (is, rose))) = inr (inl (cc, rose))
begun_with builder found (Err f) s t (inr (inr is)) = inr (inr cc)

begun_dir : (gathers : Bool) (v : World) (at : Names) (wanted : ReadDirMeta) (result : Result LocalFsReadDir FsError) (s t : DiskState) → s.told ≡ Some v → is_linked v.tree at ≡ false
    → BeginsDir gathers at wanted s result t → BeginsThere (members_or v at (listable (look v.tree at))) result ⊎ Spoiled s result t
begun_dir false v at wanted result s t told clear (begun, (answer, lists, is), whole) =
    subst (λ (r : Result LocalFsReadDir FsError). BeginsThere (members_or v at (listable (look v.tree at))) r ⊎ Spoiled s r t) (sym whole)
    (begun_with None (members_or v at (listable (look v.tree at))) begun s t
    (subst (λ (r : Result ListingState FsError). BeginsThere (members_or v at (listable (look v.tree at))) r ⊎ Spoiled s r t) (sym is) (begins_there v at wanted answer s t told clear lists)))
begun_dir true v at wanted result s t told clear (inl (starved, same)) = inr (inr starved)
begun_dir true v at wanted result s t told clear (inr (b, u, (found, metas, is_b), begun, (answer, lists, is), whole)) =
    let keeps = metas_keep true s at found u metas in
    let (x, now, still) = told_after s.told u.told SameBesidesOpens v keeps.world told in
    let there = subst (λ (r : Result ListingState FsError). BeginsThere (members_or x at (listable (look x.tree at))) r ⊎ Spoiled u r t) (sym is)
    (begins_there x at wanted answer u t now (ap (λ rows. is_linked rows at) still.tree ∙ clear) lists) in
    subst (λ (r : Result LocalFsReadDir FsError). BeginsThere (members_or v at (listable (look v.tree at))) r ⊎ Spoiled s r t) (sym whole)
    (begun_with (Some b) (members_or v at (listable (look v.tree at))) begun s t (back x still keeps.counts there))
  where
    back : (x : World) → SameBesidesOpens v x → s.faults ≤ u.faults → BeginsThere (members_or x at (listable (look x.tree at))) begun ⊎ Spoiled u begun t
        → BeginsThere (members_or v at (listable (look v.tree at))) begun ⊎ Spoiled s begun t
    back x still up (inl there) = inl (begun_by v x at (listable (look v.tree at)) begun (subst (λ rows. BeginsThere (members_or x at (listable (look rows at))) begun) still.tree there))
    back x still up (inr spoiled) = inr (spoiled_later s u t begun up spoiled)

no_listing : {A : Type 0} (d : LocalFsReadDir) (e : FsError) → ◌≡◌ {A = Result LocalFsReadDir FsError} (Ok d) (Err e) → A
no_listing d e is = cc

-- the path of a listing is that of its directory
path_with : (builder : Option BuilderState) (at : Names) (wanted : ReadDirMeta) (answer : Result Lister DiskError) (d : LocalFsReadDir) → dir_with builder (dir_of at wanted answer) ≡ Ok d → d.reading.path ≡ at
path_with builder at wanted (Ok lister) d is =
    let same : record { reading = record { lister = lister; path = at; wanted = wanted; batch = []; refused = None; over = false }; builder = builder } ≡ d = cc in
    ap (λ (x : LocalFsReadDir). x.reading.path) (sym same)
path_with builder at wanted (Err e) d is = no_listing d (fs_error_of e) (sym is)

listed_path : (gathers : Bool) (at : Names) (wanted : ReadDirMeta) (s t : DiskState) (d : LocalFsReadDir) → BeginsDir gathers at wanted s (Ok d) t → d.reading.path ≡ at
listed_path false at wanted s t d (begun, (answer, lists, is), whole) = path_with None at wanted answer d (ap (dir_with None) (sym is) ∙ sym whole)
listed_path true at wanted s t d (inl (starved, same)) = no_listing d fs.NoMemory starved
listed_path true at wanted s t d (inr (b, u, starts, begun, (answer, lists, is), whole)) = path_with (Some b) at wanted answer d (ap (dir_with (Some b)) (sym is) ∙ sym whole)

listed_in_by : (p m q : Place) (w : World) (path : WebPath) (wanted : ReadDirMeta) (found_at : Result Names FsError) (result : Result LocalFsReadDir FsError) → p.disk.told ≡ Some w
    → Resolves p path.names found_at m → AfterFound found_at m (BeginsAt wanted) result q → Listed p w path result q
listed_in_by p m q w path wanted (Err e) result told resolves (is, ends) = record {
  end = resolved_by p.ways w.tree path.names;
  loosely = somewhere p.ways w.tree path.names;
  shows = λ clear. inr (subst (λ (x : Place). Spoiled p.disk result x.disk) (sym ends) (spoiled_by p.disk p.disk m.disk e result (omega arith) is resolves.refused));
  at_end = λ d ok clear. no_listing d e (sym ok ∙ is);
}
listed_in_by p m q w path wanted (Ok at) result told resolves (t, begins, ends) =
    let leads = resolves.told w told in
    let (v, now, same) = told_after p.disk.told m.disk.told SameBesidesOpens w resolves.keeps.world told in
    record {
      end = leads.end;
      loosely = leads.loosely;
      shows = λ clear. shows leads clear v now same;
      at_end = λ d ok clear. listed_path (gathers m.ways.macos wanted) at wanted m.disk t d (subst (λ (r : Result LocalFsReadDir FsError). BeginsDir (gathers m.ways.macos wanted) at wanted m.disk r t) ok begins) ∙ leads.here clear;
    }
  where
    shows : (leads : Leads p.ways w.tree path.names at) → is_linked w.tree leads.end ≡ false → (v : World) → m.disk.told ≡ Some v → SameBesidesOpens w v
        → BeginsThere (listed_in w leads.end) result ⊎ Spoiled p.disk result q.disk
    shows leads clear v now same =
        let here = leads.here clear in
        let ended : q.disk ≡ t = ap (λ (x : Place). x.disk) ends in
        elim (begun_dir (gathers m.ways.macos wanted) v at wanted result m.disk t now (ap (λ rows. is_linked rows at) same.tree ∙ ap (is_linked w.tree) here ∙ clear) begins) [
          | inl there ↦ inl (subst (λ z. BeginsThere (listed_in w z) result) here
              (subst (λ rows. BeginsThere (members_or w at (listable (look rows at))) result) same.tree
              (begun_by w v at (listable (look v.tree at)) result there)))
          | inr spoiled ↦ inr (subst (λ d. Spoiled p.disk result d) (sym ended) (spoiled_later p.disk m.disk t result resolves.keeps.counts spoiled))
        ]

-- Each beginning of a listing is answered by the rules.
pub lists_by_rules : (p q : Place) (w : World) (path : WebPath) (wanted : ReadDirMeta) (result : Result LocalFsReadDir FsError) → p.disk.told ≡ Some w
    → Finds p path.names (BeginsAt wanted) result q → Listed p w path result q
lists_by_rules p q w path wanted result told (found_at, m, resolves, after) = listed_in_by p m q w path wanted found_at result told resolves after
