-- Paths that are found by few calls: where the memory has them, as they are asked, or in the directory above.
use Rattle.std.proofs.Common.{◌≡◌, ◌≤◌, ◌+◌, ◌++◌, inl, inr, true, false, [], ◌∷◌, length, Option, None, Some, Result, Ok, Err, IfOk, refl, sym, ap, subst, ◌∙◌, arith}
use Rattle.std.specs.Map.{lookup}
use Rattle.std.specs.Option.{is_some}
use Rattle.dav_io.specs.Counts.{RefusedNothing}
use Rattle.dav_io.proofs.ToldLemmas.{told_after}
use Rattle.dav_io.proofs.Rising.{no_rise}
use Rattle.dav_core.specs.declared.error.FsError.{FsError}
use Rattle.dav_core.specs.declared.handle.DiskError.{DiskError}
use Rattle.dav_core.specs.declared.handle.Meta.{Meta}
use Rattle.dav_core.specs.declared.tree.Row.{Row}
use Rattle.dav_core.specs.Disk.{DiskState, Metas}
use Rattle.dav_core.specs.Listing.{names_in}
use Rattle.dav_core.specs.Path.{Names}
use Rattle.dav_core.specs.Tree.{is_linked, look}
use Rattle.dav_core.specs.World.{World}
use Rattle.dav_store.specs.Files.{AsksOnce}
use Rattle.dav_memory.specs.Calls.{LooksBy}
use Rattle.dav_memory.specs.Entries.{PathCache}
use Rattle.dav_memory.specs.Memory.{GetsBy, MemoryState}
use Rattle.dav_memory.specs.Trees.{same_path, fold_path as kept_path}
use Rattle.dav_model.specs.Folds.{Name}
use Rattle.dav_local.specs.Near.{CallsAtMost, FindsAtOnce, FindsDir, FindsDirHere, FindsHere, IsAtOnce, IsFoundAt, IsIn, IsUnkept, MissesUnasked, SearchesFew, SoughtIn, StandsClear, members_at}
use Rattle.dav_local.specs.Places.{Place}
use Rattle.dav_local.specs.Walking.{IsAlikeIn, KeepsPlace, Recalls, Remembers, TakesMember}
use Rattle.dav_local.proofs.Above.{dir_same, no_names, same_folds}
use Rattle.dav_local.proofs.Counted.{few_called, few_more, one_then, unasked}
use Rattle.dav_local.proofs.Memories.{error_of, same_tree}
use Rattle.dav_local.proofs.Recalling.{no_refusal}

-- ---- nothing is refused so far

pub nothing_before : (s m t : DiskState) → RefusedNothing s.faults t.faults → s.faults ≤ m.faults → m.faults ≤ t.faults → RefusedNothing s.faults m.faults
nothing_before s m t nothing first then = record { same = omega (arith, nothing.same, first, then); room = omega (arith, nothing.room, then) }

pub nothing_after : (s m t : DiskState) → RefusedNothing s.faults t.faults → s.faults ≤ m.faults → m.faults ≤ t.faults → RefusedNothing m.faults t.faults
nothing_after s m t nothing first then = record { same = omega (arith, nothing.same, first, then); room = nothing.room }

-- ---- a path that the memory hasn't

pub got_unkept : {A : Type 0} (call : DiskState → Names → Result A DiskError → DiskState → Type 0) (p : Place) (names : Names) (found : Option (Names × A)) (m : MemoryState) (t : DiskState)
    → GetsBy call p.memory names p.disk found m t → IsUnkept p.memory names → (t ≡ p.disk) × (m.paths ≡ p.memory.paths) × (found ≡ None)
got_unkept call p names found m t gets unkept =
    let (d, now, looks) = told_after p.memory.paths m.paths (λ a b. LooksBy call (lookup (same_path (kept_path names)) a.entries) a names p.disk found b t) unkept.cache gets.paths unkept.tells in
    let (none, same, still) = subst (λ o. LooksBy call o unkept.cache names p.disk found d t) (ap (λ k. lookup (same_path k) unkept.cache.entries) (same_folds names) ∙ unkept.none) looks in
    (still, now ∙ ap (λ (c : PathCache). Some c) same ∙ sym unkept.tells, none)

is_none : {A : Type 0} (o : Option A) → o ≡ None → is_some o ≡ false
is_none o e = ap is_some e

pub got_unasked : {A : Type 0} (call : DiskState → Names → Result A DiskError → DiskState → Type 0) (p q : Place) (names : Names) (found : Option (Names × A)) → GetsBy call p.memory names p.disk found q.memory q.disk
    → MissesUnasked p names (Ok found) q
got_unasked call p q names found gets = λ unkept.
    let (disk, paths, none) = got_unkept call p names found q.memory q.disk gets unkept in (disk, paths, is_none found none)

-- as the answer of another kind
pub missed_as : {A B : Type 0} (call : DiskState → Names → Result A DiskError → DiskState → Type 0) (p q : Place) (names : Names) (found : Option (Names × A)) (r : Option B) → is_some r ≡ is_some found
    → GetsBy call p.memory names p.disk found q.memory q.disk → MissesUnasked p names (Ok r) q
missed_as call p q names found r alike gets = λ unkept.
    let (disk, paths, none) = got_unasked call p q names found gets unkept in (disk, paths, alike ∙ none)

pub some_none : {A B : Type 0} (found : Option A) (x : A) → found ≡ Some x → is_some found ≡ false → B
some_none found x is none = let no : true ≡ false = sym (ap is_some is) ∙ none in cc

none_held : {A B : Type 0} (found : Option A) (x : A) → found ≡ None → found ≡ Some x → B
none_held {A = A} found x none some = let no : ◌≡◌ {A = Option A} None (Some x) = sym none ∙ some in cc

-- ---- what stands there isn't refused

pub seen_there : {B : Type 0} (s t : DiskState) (names : Names) (e : DiskError) → Metas s names (Err e) t → StandsClear s names → RefusedNothing s.faults t.faults → B
seen_there s t names e metas here nothing =
    absurd (no_refusal e (look here.world.tree names) here.row metas.only (metas.told here.world here.told here.clear) here.stands
    (λ is. no_rise s.faults t.faults nothing (metas.asks.rose (ap (λ x. Err x) is))))

-- what doesn't stand as it is asked isn't seen
pub unseen : {B : Type 0} (p : Place) (t : DiskState) (names dir at : Names) (name : Name) (m : Meta) → Metas p.disk names (Ok m) t → IsIn p names dir at name → B
unseen p t names dir at name m metas e =
    let (row, stands, is) = metas.told e.world e.told e.way in
    let no : ◌≡◌ {A = Result Row DiskError} (Ok row) (Err e.error) = sym stands ∙ e.missing in cc

clear_as : (s t : DiskState) (names : Names) → t.told ≡ s.told → StandsClear s names → StandsClear t names
clear_as s t names same here = record { world = here.world; told = same ∙ here.told; row = here.row; stands = here.stands; clear = here.clear }

unkept_as : (m n : MemoryState) (names : Names) → n.paths ≡ m.paths → IsUnkept m names → IsUnkept n names
unkept_as m n names same unkept = record { cache = unkept.cache; tells = same ∙ unkept.tells; none = unkept.none }

once_as : (p q : Place) (names at : Names) → q.memory.paths ≡ p.memory.paths → q.disk.told ≡ p.disk.told → IsAtOnce p names at → IsAtOnce q names at
once_as p q names at paths told (inl held) = inl (record {
  cache = held.cache;
  tells = paths ∙ held.tells;
  entry = held.entry;
  holds = held.holds;
  place = held.place;
  world = held.world;
  told = told ∙ held.told;
  row = held.row;
  stands = held.stands;
  clear = held.clear;
})
once_as p q names at paths told (inr ((unkept, here), is)) = inr ((unkept_as p.memory q.memory names paths unkept, clear_as p.disk q.disk names told here), is)

-- It is sought there also after the memory was asked for it, or the disk.
pub in_as : (p q : Place) (names dir at : Names) (name : Name) → q.memory.paths ≡ p.memory.paths → q.disk.told ≡ p.disk.told → (e : IsIn p names dir at name) → (f : IsIn q names dir at name) × (f.world ≡ e.world)
in_as p q names dir at name paths told e = (
  record {
    path = e.path;
    deep = e.deep;
    once = once_as p q dir at paths told e.once;
    unkept = unkept_as p.memory q.memory names paths e.unkept;
    world = e.world;
    told = told ∙ e.told;
    clear = e.clear;
    error = e.error;
    missing = e.missing;
    way = e.way;
  },
  refl,
)

-- ---- the directory above

pub dir_root : (p : Place) (dir others : Names) (r : Result (Option Names) FsError) → length others ≡ 0 → others ≡ dir → FindsDir p dir r p
dir_root p dir others r none same = λ nothing deep at once. absurd (deep (sym same ∙ no_names others none))

pub dir_recalled : (p q : Place) (dir there : Names) (found : Option Names) → Recalls p dir (Ok found) q → MissesUnasked p dir (Ok found) q → found ≡ Some there → FindsDir p dir (Ok (Some there)) q
dir_recalled p q dir there found recalls misses is = λ nothing deep at once. by_once nothing at once
  where
    by_once : RefusedNothing p.disk.faults q.disk.faults → (at : Names) → IsAtOnce p dir at → IsFoundAt at p.disk (Ok (Some there)) q.disk
    by_once nothing at (inl held) = let (same, once) = recalls.saved nothing at held in inl (ap (λ o. Ok o) (sym is ∙ same), once)
    by_once nothing at (inr ((unkept, here), same)) = let (disk, paths, none) = misses unkept in some_none found there is none

pub dir_starved : (p q : Place) (dir : Names) (e : FsError) → Recalls p dir (Err e) q → FindsDir p dir (Err e) q
dir_starved p q dir e recalls = λ nothing deep at once. let (is, same) = recalls.starved in inr (ap (λ x. Err x) (error_of e is), unasked 1 p.disk q.disk same)

pub dir_unknown : (p m q : Place) (dir : Names) (found : Option Names) (r : Result (Option Names) FsError) → Recalls p dir (Ok found) m → MissesUnasked p dir (Ok found) m → found ≡ None
    → m.disk.faults ≤ q.disk.faults → FindsDirHere m dir r q → FindsDir p dir r q
dir_unknown p m q dir found r recalls misses is counts finds = λ nothing deep at once. by_once nothing at once
  where
    by_once : RefusedNothing p.disk.faults q.disk.faults → (at : Names) → IsAtOnce p dir at → IsFoundAt at p.disk r q.disk
    by_once nothing at (inl held) =
        let (same, once) = recalls.saved (nothing_before p.disk m.disk q.disk nothing recalls.keeps.keeps.counts counts) at held in none_held found at is same
    by_once nothing at (inr ((unkept, here), place)) =
        let (disk, paths, none) = misses unkept in
        subst (λ a. IsFoundAt a p.disk r q.disk) (sym place)
        (subst (λ d. IsFoundAt dir d r q.disk) disk (finds (nothing_after p.disk m.disk q.disk nothing recalls.keeps.keeps.counts counts) (subst (λ d. StandsClear d dir) (sym disk) here)))

pub here_remembered : (p q : Place) (t : DiskState) (dir : Names) (m : Meta) → Metas p.disk dir (Ok m) t → q.disk ≡ t → FindsDirHere p dir (Ok (Some dir)) q
here_remembered p q t dir m metas same = λ nothing here. inl (refl, subst (λ d. AsksOnce p.disk d) (sym same) metas.asks.asked)

pub here_starved : (p q : Place) (t : DiskState) (dir : Names) (m : Meta) (e : FsError) → Metas p.disk dir (Ok m) t → Remembers (record p { disk = t }) dir (Err e) q → q.disk ≡ t → FindsDirHere p dir (Err e) q
here_starved p q t dir m e metas remembers same = λ nothing here.
    inr (ap (λ x. Err x) (error_of e remembers.starved), few_called 1 p.disk q.disk (omega arith) (subst (λ d. AsksOnce p.disk d) (sym same) metas.asks.asked))

pub here_refused : (p : Place) (t : DiskState) (dir : Names) (e : DiskError) (r : Result (Option Names) FsError) → Metas p.disk dir (Err e) t → FindsDirHere p dir r (record p { disk = t })
here_refused p t dir e r metas = λ nothing here. seen_there p.disk t dir e metas here nothing

-- ---- a member of it

name_same : (a b : Names) (x y : Name) → a ++ x ∷ [] ≡ b ++ y ∷ [] → x ≡ y
name_same [] [] x y e = cc
name_same [] (d ∷ []) x y e = cc
name_same [] (d ∷ f ∷ b) x y e = cc
name_same (c ∷ []) [] x y e = cc
name_same (c ∷ f ∷ a) [] x y e = cc
name_same (c ∷ a) (d ∷ b) x y e = let tails : a ++ x ∷ [] ≡ b ++ y ∷ [] = cc in name_same a b x y tails

-- what is found isn't None
pub sought_lost : (p m q : Place) (names above : Names) (x : Name) (found : Option Names) (r : Result Names FsError) → names ≡ above ++ x ∷ [] → FindsDir p above (Ok found) m → found ≡ None
    → p.disk.faults ≤ m.disk.faults → m.disk.faults ≤ q.disk.faults → SoughtIn 3 p names r q
sought_lost p m q names above x found r path finds none first then = λ nothing dir at name is.
    let same : above ≡ dir = dir_same above dir x name (sym path ∙ is.path) in
    elim (subst (λ d. FindsDir p d (Ok found) m) same finds (nothing_before p.disk m.disk q.disk nothing first then) is.deep at is.once) [
      | inl found_so ↦ (let some : found ≡ Some at = cc (found_so.0) in none_held found at none some)
      | inr starved ↦ (let never : ◌≡◌ {A = Result (Option Names) FsError} (Ok found) (Err FsError.NoMemory) = starved.0 in cc)
    ]

pub sought_taken : (p m q : Place) (names above there : Names) (x : Name) (found : Option Names) (r : Result Names FsError) → names ≡ above ++ x ∷ [] → FindsDir p above (Ok found) m → found ≡ Some there
    → KeepsPlace p m → TakesMember m there x r q → SearchesFew m.disk there q.disk → SoughtIn 3 p names r q
sought_taken p m q names above there x found r path finds is keeps takes few = λ nothing dir at name e.
    let same : above ≡ dir = dir_same above dir x name (sym path ∙ e.path) in
    let named : x ≡ name = name_same above dir x name (sym path ∙ e.path) in
    by_found dir at name e named (subst (λ d. FindsDir p d (Ok found) m) same finds (nothing_before p.disk m.disk q.disk nothing keeps.keeps.counts takes.keeps.keeps.counts) e.deep at e.once)
  where
    by_found : (dir at : Names) (name : Name) → (e : IsIn p names dir at name) → x ≡ name → IsFoundAt at p.disk (Ok found) m.disk
        → IfOk r (λ found. IsAlikeIn at name found) × CallsAtMost (members_at e.world at + 3) p.disk q.disk
    by_found dir at name e named (inr (memory, starved)) = (let never : ◌≡◌ {A = Result (Option Names) FsError} (Ok found) (Err FsError.NoMemory) = memory in cc)
    by_found dir at name e named (inl (here, once)) =
        let place : there ≡ at = (let both : ◌≡◌ {A = Result (Option Names) FsError} (Ok (Some there)) (Ok (Some at)) = ap (λ o. Ok o) (sym is) ∙ here in cc) in
        let (v, now, tree) = same_tree p m e.world keeps e.told in
        let read : CallsAtMost (members_at v at + 2) m.disk q.disk = subst (λ d. SearchesFew m.disk d q.disk) place few v now (ap (λ z. is_linked z at) tree ∙ e.clear) in
        let counted : members_at v at ≡ members_at e.world at = ap (λ z. length (names_in z at)) tree in (
          subst (λ n. IfOk r (λ found. IsAlikeIn at n found)) named (subst (λ d. IfOk r (λ found. IsAlikeIn d x found)) place takes.alike),
          few_more (members_at v at + 2 + 1) (members_at e.world at + 3) p.disk q.disk (omega (arith, counted)) (one_then (members_at v at + 2) p.disk m.disk q.disk once read),
        )

-- ---- on the disk

pub sought_seen : (p : Place) (t : DiskState) (names : Names) (m : Meta) (r : Result Names FsError) → Metas p.disk names (Ok m) t → SoughtIn 4 p names r (record p { disk = t })
sought_seen p t names m r metas = λ nothing dir at name e. unseen p t names dir at name m metas e

pub sought_failed : (p : Place) (t : DiskState) (names : Names) (e : DiskError) (x : FsError) → Metas p.disk names (Err e) t → SoughtIn 4 p names (Err x) (record p { disk = t })
sought_failed p t names e x metas = λ nothing dir at name is. (tt, few_called (members_at is.world at + 4) p.disk t (omega arith) metas.asks.asked)

pub sought_missing : (p q : Place) (t : DiskState) (names : Names) (e : DiskError) (r : Result Names FsError) → Metas p.disk names (Err e) t → t.faults ≤ q.disk.faults
    → SoughtIn 3 (record p { disk = t }) names r q → SoughtIn 4 p names r q
sought_missing p q t names e r metas counts sought = λ nothing dir at name is.
    let (f, same) = in_as p (record p { disk = t }) names dir at name refl metas.world is in
    let (alike, few) = sought (nothing_after p.disk t q.disk nothing metas.asks.counts counts) dir at name f in (
      alike,
      few_more (members_at f.world at + 3 + 1) (members_at is.world at + 4) p.disk q.disk (let counted = ap (λ (u : World). members_at u at) same in omega (arith, counted))
          (one_then (members_at f.world at + 3) p.disk t q.disk metas.asks.asked few),
    )

pub here_seen : (p : Place) (t : DiskState) (names : Names) (m : Meta) → Metas p.disk names (Ok m) t → FindsHere p names (Ok None) (record p { disk = t })
here_seen p t names m metas = λ nothing here. (refl, metas.asks.asked)

pub here_unseen : (p q : Place) (t : DiskState) (names : Names) (e : DiskError) (r : Result (Option Names) FsError) → Metas p.disk names (Err e) t → t.faults ≤ q.disk.faults → FindsHere p names r q
here_unseen p q t names e r metas counts = λ nothing here.
    seen_there p.disk t names e metas here (nothing_before p.disk t q.disk nothing metas.asks.counts counts)

-- ---- where the memory has it

pub once_recalled : (p q : Place) (names there : Names) (found : Option Names) → Recalls p names (Ok found) q → MissesUnasked p names (Ok found) q → found ≡ Some there → FindsAtOnce p names q
once_recalled p q names there found recalls misses is = λ nothing at once. by_once nothing at once
  where
    by_once : RefusedNothing p.disk.faults q.disk.faults → (at : Names) → IsAtOnce p names at → CallsAtMost 1 p.disk q.disk
    by_once nothing at (inl held) = let (same, once) = recalls.saved nothing at held in few_called 1 p.disk q.disk (omega arith) once
    by_once nothing at (inr ((unkept, here), same)) = let (disk, paths, none) = misses unkept in some_none found there is none

pub once_unknown : (p m q : Place) (names : Names) (found : Option Names) (r : Result (Option Names) FsError) → Recalls p names (Ok found) m → MissesUnasked p names (Ok found) m → found ≡ None
    → m.disk.faults ≤ q.disk.faults → FindsHere m names r q → FindsAtOnce p names q
once_unknown p m q names found r recalls misses is counts finds = λ nothing at once. by_once nothing at once
  where
    by_once : RefusedNothing p.disk.faults q.disk.faults → (at : Names) → IsAtOnce p names at → CallsAtMost 1 p.disk q.disk
    by_once nothing at (inl held) =
        let (same, once) = recalls.saved (nothing_before p.disk m.disk q.disk nothing recalls.keeps.keeps.counts counts) at held in none_held found at is same
    by_once nothing at (inr ((unkept, here), place)) =
        let (disk, paths, none) = misses unkept in
        let (is, once) = finds (nothing_after p.disk m.disk q.disk nothing recalls.keeps.keeps.counts counts) (subst (λ d. StandsClear d names) (sym disk) here) in
        few_called 1 p.disk q.disk (omega arith) (subst (λ d. AsksOnce d q.disk) disk once)

pub once_starved : (p q : Place) (names : Names) (e : FsError) → Recalls p names (Err e) q → FindsAtOnce p names q
once_starved p q names e recalls = λ nothing at once. unasked 1 p.disk q.disk (recalls.starved).1
