-- What the memory has of a path, and what it is told of one.
use Rattle.std.proofs.Common.{ℕ, zero, suc, ◌-◌, cond, not, take, ◌≡◌, Bool, true, false, [], ◌∷◌, Option, None, Some, IfSome, Result, Ok, Err, refl, sym, ap, subst, ◌∙◌}
use Rattle.std.specs.Map.{lookup}
use Rattle.std.specs.Option.{is_some}
use Rattle.dav_io.specs.Counts.{RefusedNothing}
use Rattle.dav_io.specs.Told.{Both}
use Rattle.dav_io.proofs.ToldLemmas.{told_after}
use Rattle.dav_io.proofs.Rising.{no_rise}
use Rattle.dav_io.specs.declared.clock.Moment.{Moment}
use Rattle.dav_core.specs.declared.error.FsError.{FsError}
use Rattle.dav_core.specs.declared.handle.DiskError.{DiskError}
use Rattle.dav_core.specs.declared.handle.DiskError.TheVariants.{NotFound, NotDir, IsDir, Exists, NotEmpty, Failed, NoMemory}
use Rattle.dav_core.specs.declared.handle.Handle.{Handle}
use Rattle.dav_core.specs.declared.handle.Meta.{Meta}
use Rattle.dav_core.specs.declared.tree.Row.{Row}
use Rattle.dav_core.specs.Disk.{DiskState, MayRefuseMeta, MayRefuseOpen, Metas, OpenedIn, Opens, Refused}
use Rattle.dav_core.specs.Path.{Names}
use Rattle.dav_core.specs.Tree.{is_linked, is_tree, look}
use Rattle.dav_core.specs.Unchanged.{Keeps}
use Rattle.dav_core.specs.World.{World}
use Rattle.dav_core.specs.Writing.{reading}
use Rattle.dav_core.proofs.UnchangedLemmas.{keeps_same}
use Rattle.dav_store.specs.Files.{AsksOnce}
use Rattle.dav_memory.specs.Calls.{Looks, LooksBy, Opening, Seeing, is_starved}
use Rattle.dav_memory.specs.declared.entry.PathEntry.{PathEntry}
use Rattle.dav_memory.specs.Entries.{PathCache, Paths, inserted, without}
use Rattle.dav_memory.specs.Memory.{Gets, GetsBy, GetsOpen, Inserts, LearnsNothing, MemoryState}
use Rattle.dav_memory.specs.Trees.{same_path, fold_path as kept_path}
use Rattle.dav_local.specs.Made.{MadeAt}
use Rattle.dav_local.specs.Places.{Place}
use Rattle.dav_local.specs.Remembering.{AllPaths, IsFirst, IsNewFirst, IsRemembered}
use Rattle.dav_local.specs.Walking.{KeepsPlace, Recalls, Remembers, RemembersIn, StandsAt}
use Rattle.dav_local.proofs.Above.{had_there, same_folds, told_next}
use Rattle.dav_local.proofs.Dating.{made_got, made_inserted, made_same}
use Rattle.dav_local.proofs.Keeping.{asked_keeps}
use Rattle.dav_local.proofs.Memories.{learns_none, rows_same}

pub none_is : {A : Type 0} (o : Option A) → is_some o ≡ false → o ≡ None
none_is None e = refl
none_is (Some x) e = cc

pub both_tell : {A : Type 0} (a b : Option A) (P : A → A → Type 0) → Both a b P → is_some b ≡ is_some a
both_tell None None P both = refl
both_tell None (Some y) P both = absurd both
both_tell (Some x) None P both = absurd both
both_tell (Some x) (Some y) P both = refl

-- ---- a path is looked up

abbrev pub path_of : {A : Type 0} → Option (Names × A) → Option Names
path_of None = None
path_of (Some f) = Some f.0

module _ {A : Type 0} (call : DiskState → Names → Result A DiskError → DiskState → Type 0) where
  -- What is found is the first entry then.
  looked_first : (o : Option PathEntry) (a b : PathCache) (names : Names) (s t : DiskState) (f : Names × A) → LooksBy call o a names s (Some f) b t → IsFirst names f.0 b.entries
  looked_first None a b names s t f (none, same, unasked) = cc
  looked_first (Some e) a b names s t f (Ok answer, called, is, new) =
      let place : e.path ≡ f.0 = (let same : ◌≡◌ {A = Option Names} (Some f.0) (Some e.path) = ap path_of is in cc) in
      subst (λ (c : PathCache). IsFirst names f.0 c.entries) (sym new) (same_folds names, place)
  looked_first (Some e) a b names s t f (Err error, called, is, new) = cc

  pub got_first : (old new : Option PathCache) (names : Names) (s t : DiskState) (f : Names × A)
      → Both old new (λ a b. LooksBy call (lookup (same_path (kept_path names)) a.entries) a names s (Some f) b t) → IfSome new (λ c. IsFirst names f.0 c.entries)
  got_first None None names s t f both = tt
  got_first None (Some b) names s t f both = absurd both
  got_first (Some a) None names s t f both = absurd both
  got_first (Some a) (Some b) names s t f both = looked_first (lookup (same_path (kept_path names)) a.entries) a b names s t f both

-- What stands there is refused only because of a fault.
pub no_refusal : (e : DiskError) (found : Result Row DiskError) (row : Row) → MayRefuseMeta e → Refused e found → found ≡ Ok row → (e ≡ Failed → ⊥) → ⊥
no_refusal NotFound found row may refused stands fault = cc
no_refusal NotDir found row may refused stands fault = cc
no_refusal IsDir found row may refused stands fault = absurd may
no_refusal Exists found row may refused stands fault = absurd may
no_refusal NotEmpty found row may refused stands fault = absurd may
no_refusal Failed found row may refused stands fault = fault refl
no_refusal NoMemory found row may refused stands fault = absurd may

-- What stands there is opened, but for a fault and want of memory.
no_opening : (e : DiskError) (found : Result Row DiskError) (row : Row) → MayRefuseOpen false e → is_starved {A = Handle} (Err e) ≡ false → Refused e found → found ≡ Ok row → (e ≡ Failed → ⊥) → ⊥
no_opening NotFound found row may fed refused stands fault = cc
no_opening NotDir found row may fed refused stands fault = cc
no_opening IsDir found row may fed refused stands fault = absurd may
no_opening Exists found row may fed refused stands fault = absurd may
no_opening NotEmpty found row may fed refused stands fault = absurd may
no_opening Failed found row may fed refused stands fault = fault refl
no_opening NoMemory found row may fed refused stands fault = cc

-- ---- the paths of a cache

by_cond : (test : Names → Bool) (b : Bool) (e : Names × PathEntry) (es : Paths) → test e.1.path ≡ true → AllPaths test es → AllPaths test (cond b (e ∷ es) es)
by_cond test true e es first all = (first, all)
by_cond test false e es first all = all

paths_without : (test gone : Names → Bool) (es : Paths) → AllPaths test es → AllPaths test (without gone es)
paths_without test gone [] all = tt
paths_without test gone (e ∷ es) all = by_cond test (not (gone e.0)) e (without gone es) all.0 (paths_without test gone es all.1)

paths_take : (test : Names → Bool) (n : ℕ) (es : Paths) → AllPaths test es → AllPaths test (take n es)
paths_take test zero es all = tt
paths_take test (suc n) [] all = tt
paths_take test (suc n) (e ∷ es) all = (all.0, paths_take test n es all.1)

path_found : (test key : Names → Bool) (es : Paths) (e : PathEntry) → lookup key es ≡ Some e → AllPaths test es → test e.path ≡ true
path_found test key [] e is all = cc
path_found test key (f ∷ es) e is all = by_key (λ later. path_found test key es e later all.1) (key f.0) is
  where
    here : ◌≡◌ {A = Option PathEntry} (Some f.1) (Some e) → test e.path ≡ true
    here same = ap (λ (o : Option PathEntry). holds_of o) (sym same) ∙ all.0
      where
        holds_of : Option PathEntry → Bool
        holds_of None = true
        holds_of (Some x) = test x.path

    by_key : (lookup key es ≡ Some e → test e.path ≡ true) → (b : Bool) → cond b (Some f.1) (lookup key es) ≡ Some e → test e.path ≡ true
    by_key on true same = here same
    by_key on false later = on later

module _ {A : Type 0} (call : DiskState → Names → Result A DiskError → DiskState → Type 0) where
  looked_paths : (test : Names → Bool) (o : Option PathEntry) (a b : PathCache) (names : Names) (s t : DiskState) (found : Option (Names × A)) → LooksBy call o a names s found b t
      → ((e : PathEntry) → o ≡ Some e → test e.path ≡ true) → AllPaths test a.entries → AllPaths test b.entries
  looked_paths test None a b names s t found (none, same, unasked) holds all = subst (λ (c : PathCache). AllPaths test c.entries) (sym same) all
  looked_paths test (Some e) a b names s t found (Ok answer, called, is, new) holds all =
      subst (λ (c : PathCache). AllPaths test c.entries) (sym new) (holds e refl, paths_without test (same_path (kept_path names)) a.entries all)
  looked_paths test (Some e) a b names s t found (Err error, called, is, new) holds all =
      subst (λ (c : PathCache). AllPaths test c.entries) (sym new) (paths_without test (same_path (kept_path names)) a.entries all)

  got_paths : (test : Names → Bool) (old new : Option PathCache) (names : Names) (s t : DiskState) (found : Option (Names × A))
      → Both old new (λ a b. LooksBy call (lookup (same_path (kept_path names)) a.entries) a names s found b t) → IfSome old (λ c. AllPaths test c.entries) → IfSome new (λ c. AllPaths test c.entries)
  got_paths test None None names s t found both all = tt
  got_paths test None (Some b) names s t found both all = absurd both
  got_paths test (Some a) None names s t found both all = absurd both
  got_paths test (Some a) (Some b) names s t found both all =
      looked_paths test (lookup (same_path (kept_path names)) a.entries) a b names s t found both (λ e is. path_found test (same_path (kept_path names)) a.entries e is all) all

  pub got_rows : (p q : Place) (names : Names) (found : Option (Names × A)) → GetsBy call p.memory names p.disk found q.memory q.disk → RemembersIn p q
  got_rows p q names found gets = λ w test told is stands linked all. got_paths test p.memory.paths q.memory.paths names p.disk q.disk found gets.paths all

-- What is remembered is found, with one call of the disk.
pub got_held : (p : Place) (names at : Names) (found : Option (Names × Meta)) (m : MemoryState) (t : DiskState) → Gets p.memory names p.disk found m t → RefusedNothing p.disk.faults t.faults
    → IsRemembered p names at → (path_of found ≡ Some at) × AsksOnce p.disk t
got_held p names at found m t gets nothing held =
    let (d, now, looks) = told_after p.memory.paths m.paths (λ a b. Looks (lookup (same_path (kept_path names)) a.entries) a names p.disk found b t) held.cache gets.paths held.tells in
    by_entry d (subst (λ o. Looks o held.cache names p.disk found d t) (ap (λ k. lookup (same_path k) held.cache.entries) (same_folds names) ∙ held.holds) looks)
  where
    fault_rose : (e : DiskError) → Metas p.disk held.entry.path (Err e) t → e ≡ Failed → ⊥
    fault_rose e metas is = no_rise p.disk.faults t.faults nothing (metas.asks.rose (ap (λ x. Err x) is))

    by_entry : (d : PathCache) → Looks (Some held.entry) held.cache names p.disk found d t → (path_of found ≡ Some at) × AsksOnce p.disk t
    by_entry d (Ok meta, metas, is, new) = (ap path_of is ∙ ap (λ z. Some z) held.place, metas.asks.asked)
    by_entry d (Err e, metas, is, new) =
        absurd (no_refusal e (look held.world.tree held.entry.path) held.row metas.only (metas.told held.world held.told (ap (is_linked held.world.tree) held.place ∙ held.clear))
        (ap (look held.world.tree) held.place ∙ held.stands) (fault_rose e metas))

-- What is remembered is opened, by one call of the disk.
pub opened_held : (p : Place) (names at : Names) (found : Option (Names × Handle)) (m : MemoryState) (t : DiskState) → GetsOpen p.memory names p.disk found m t → RefusedNothing p.disk.faults t.faults
    → IsRemembered p names at → (path_of found ≡ Some at) × AsksOnce p.disk t
opened_held p names at found m t gets nothing held =
    let (d, now, looks) = told_after p.memory.paths m.paths (λ a b. LooksBy Opening (lookup (same_path (kept_path names)) a.entries) a names p.disk found b t) held.cache gets.paths held.tells in
    by_entry d (subst (λ o. LooksBy Opening o held.cache names p.disk found d t) (ap (λ k. lookup (same_path k) held.cache.entries) (same_folds names) ∙ held.holds) looks)
  where
    refused_there : (e : DiskError) → Opens p.disk held.entry.path reading (Err e) t → Refused e (look held.world.tree held.entry.path)
    refused_there e opens =
        let (v, now, opened) = told_after p.disk.told t.told (OpenedIn held.entry.path (Err e) None) held.world opens.told held.told in
        opened.1 (ap (is_linked held.world.tree) held.place ∙ held.clear)

    by_entry : (d : PathCache) → LooksBy Opening (Some held.entry) held.cache names p.disk found d t → (path_of found ≡ Some at) × AsksOnce p.disk t
    by_entry d (Ok h, (opens, fed), is, new) = (ap path_of is ∙ ap (λ z. Some z) held.place, opens.asks.asked)
    by_entry d (Err e, (opens, fed), is, new) =
        absurd (no_opening e (look held.world.tree held.entry.path) held.row opens.only fed (refused_there e opens) (ap (look held.world.tree) held.place ∙ held.stands)
        (λ fault. no_rise p.disk.faults t.faults nothing (opens.asks.rose (ap (λ x. Err x) fault))))

got_place : (p q : Place) (names : Names) (found : Option (Names × Meta)) → q.ways ≡ p.ways → q.moment ≡ p.moment → Gets p.memory names p.disk found q.memory q.disk → KeepsPlace p q
got_place p q names found ways moment gets = record {
  ways = ways;
  keeps = asked_keeps p.disk q.disk gets.asks;
  learns = gets.learns;
  dots = gets.dots;
  tells = both_tell p.memory.paths q.memory.paths (λ a b. Looks (lookup (same_path (kept_path names)) a.entries) a names p.disk found b q.disk) gets.paths;
  moment = moment;
  made = made_got Seeing p.moment p.memory q.memory names p.disk q.disk found gets;
}

pub recalls_found : (p q : Place) (names at : Names) (meta : Meta) (found : Option (Names × Meta)) → q.ways ≡ p.ways → q.moment ≡ p.moment → Gets p.memory names p.disk found q.memory q.disk → found ≡ Some (at, meta)
    → Recalls p names (Ok (Some at)) q
recalls_found p q names at meta found ways moment gets is = recalls (subst (λ f. Gets p.memory names p.disk f q.memory q.disk) is gets)
  where
    recalls : Gets p.memory names p.disk (Some (at, meta)) q.memory q.disk → Recalls p names (Ok (Some at)) q
    recalls gets = record {
      keeps = got_place p q names (Some (at, meta)) ways moment gets;
      starved = tt;
      alike = sym (same_folds at) ∙ gets.folds ∙ same_folds names;
      stood = λ w told is clear. (let (row, stands, same) = gets.stood.told w told clear in (row, stands));
      first = got_first Seeing p.memory.paths q.memory.paths names p.disk q.disk (at, meta) gets.paths;
      had = λ unheld dir. had_there Seeing p.memory.paths q.memory.paths names p.disk q.disk (at, meta) gets.paths unheld dir;
      saved = λ nothing other held. got_held p names other (Some (at, meta)) q.memory q.disk gets nothing held;
      rows = got_rows Seeing p q names (Some (at, meta)) gets;
    }

pub recalls_none : (p q : Place) (names : Names) (found : Option (Names × Meta)) → q.ways ≡ p.ways → q.moment ≡ p.moment → Gets p.memory names p.disk found q.memory q.disk → found ≡ None → Recalls p names (Ok None) q
recalls_none p q names found ways moment gets is = recalls (subst (λ f. Gets p.memory names p.disk f q.memory q.disk) is gets)
  where
    recalls : Gets p.memory names p.disk None q.memory q.disk → Recalls p names (Ok None) q
    recalls gets = record {
      keeps = got_place p q names None ways moment gets;
      starved = tt;
      alike = tt;
      stood = tt;
      first = tt;
      had = tt;
      saved = λ nothing other held. got_held p names other None q.memory q.disk gets nothing held;
      rows = got_rows Seeing p q names None gets;
    }

place_as : (p q : Place) → q.ways ≡ p.ways → q.moment ≡ p.moment → q.memory ≡ p.memory → q.disk ≡ p.disk → KeepsPlace p q
place_as p q ways moment memory disk = record {
  ways = ways;
  keeps = subst (λ d. Keeps p.disk d) (sym disk) (keeps_same p.disk);
  learns = subst (λ m. LearnsNothing p.memory m) (sym memory) (learns_none p.memory);
  dots = ap (λ (m : MemoryState). m.dots) memory;
  tells = ap (λ (m : MemoryState). is_some m.paths) memory;
  moment = moment;
  made = made_same p.moment p.memory q.memory (ap (λ (m : MemoryState). m.paths) memory) (ap (λ (m : MemoryState). m.dots) memory);
}

pub recalls_starved : (p q : Place) (names : Names) → q.ways ≡ p.ways → q.moment ≡ p.moment → q.memory ≡ p.memory → q.disk ≡ p.disk → Recalls p names (Err FsError.NoMemory) q
recalls_starved p q names ways moment memory disk = record {
  keeps = place_as p q ways moment memory disk;
  starved = (refl, disk);
  alike = tt;
  stood = tt;
  first = tt;
  had = tt;
  saved = tt;
  rows = rows_same p q (ap (λ (m : MemoryState). m.paths) memory);
}

-- ---- a path is remembered

told_first : (old new : Option PathCache) (at : Names) (now : Moment) → Both old new (λ a b. b ≡ record a { entries = inserted a.size at now a.entries }) → IfSome new (λ c. IsFirst at at c.entries)
told_first None None at now both = tt
told_first None (Some b) at now both = absurd both
told_first (Some a) None at now both = absurd both
told_first (Some a) (Some b) at now both = subst (λ (c : PathCache). IsFirst at at c.entries) (sym both) (same_folds at, refl)

told_new : (old new : Option PathCache) (at : Names) (now : Moment) → Both old new (λ a b. b ≡ record a { entries = inserted a.size at now a.entries }) → IfSome new (λ c. IsNewFirst now at c.entries)
told_new None None at now both = tt
told_new None (Some b) at now both = absurd both
told_new (Some a) None at now both = absurd both
told_new (Some a) (Some b) at now both = subst (λ (c : PathCache). IsNewFirst now at c.entries) (sym both) (same_folds at, refl)

told_paths : (test : Names → Bool) (old new : Option PathCache) (at : Names) (now : Moment) → Both old new (λ a b. b ≡ record a { entries = inserted a.size at now a.entries }) → test at ≡ true
    → IfSome old (λ c. AllPaths test c.entries) → IfSome new (λ c. AllPaths test c.entries)
told_paths test None None at now both holds all = tt
told_paths test None (Some b) at now both holds all = absurd both
told_paths test (Some a) None at now both holds all = absurd both
told_paths test (Some a) (Some b) at now both holds all =
    subst (λ (c : PathCache). AllPaths test c.entries) (sym both)
    (holds, paths_take test (a.size - 1) (without (same_path (kept_path at)) a.entries) (paths_without test (same_path (kept_path at)) a.entries all))

-- what holds of each path at which a row stands, and behind each link, holds there
holds_there : (p : Place) (at : Names) (w : World) (test : Names → Bool) → p.disk.told ≡ Some w → is_tree w.tree ≡ true → StandsAt p.disk at
    → ((path : Names) (row : Row) → look w.tree path ≡ Ok row → test path ≡ true) → ((path : Names) → is_linked w.tree path ≡ true → test path ≡ true) → test at ≡ true
holds_there p at w test told is there stands linked = by_link (is_linked w.tree at) refl
  where
    by_link : (b : Bool) → is_linked w.tree at ≡ b → test at ≡ true
    by_link true e = linked at e
    by_link false e = let (row, here) = there w told is e in stands at row here

pub remembers_at : (p q : Place) (at : Names) (now : Moment) → q.ways ≡ p.ways → q.moment ≡ p.moment → q.disk ≡ p.disk → now ≡ p.moment → Inserts p.memory at now q.memory
    → Remembers p at (Ok tt) q
remembers_at p q at now ways moment disk same inserts = record {
  keeps = record {
    ways = ways;
    keeps = subst (λ d. Keeps p.disk d) (sym disk) (keeps_same p.disk);
    learns = inserts.learns;
    dots = inserts.dots;
    tells = both_tell p.memory.paths q.memory.paths (λ a b. b ≡ record a { entries = inserted a.size at now a.entries }) inserts.paths;
    moment = moment;
    made = subst (λ then. MadeAt then p.memory q.memory) same (made_inserted now p.memory q.memory at inserts);
  };
  starved = tt;
  first = told_first p.memory.paths q.memory.paths at now inserts.paths;
  new = subst (λ then. IfSome q.memory.paths (λ c. IsNewFirst then at c.entries)) same (told_new p.memory.paths q.memory.paths at now inserts.paths);
  next = λ dir first apart. told_next p.memory.paths q.memory.paths at now inserts.paths dir first apart;
  rows = λ there w test told is stands linked all. told_paths test p.memory.paths q.memory.paths at now inserts.paths (holds_there p at w test told is there stands linked) all;
}

pub remembers_starved : (p q : Place) (at : Names) → q.ways ≡ p.ways → q.moment ≡ p.moment → q.memory ≡ p.memory → q.disk ≡ p.disk → Remembers p at (Err FsError.NoMemory) q
remembers_starved p q at ways moment memory disk =
    record { keeps = place_as p q ways moment memory disk; starved = refl; first = tt; new = tt; next = tt; rows = λ there. rows_same p q (ap (λ (m : MemoryState). m.paths) memory) }
