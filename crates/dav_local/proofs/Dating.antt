-- Which entries of a memory are new after its calls.
use Rattle.std.proofs.Common.{ℕ, zero, suc, ◌-◌, ◌+◌, cond, not, take, ◌≡◌, nat_lt, if◌then◌else◌, Bool, true, false, List, [], ◌∷◌, Option, None, Some, Result, Ok, Err, length, refl, sym, ap, subst, ◌∙◌}
use Rattle.std.specs.Map.{lookup}
use Rattle.dav_io.specs.declared.clock.Moment.{Moment}
use Rattle.dav_io.proofs.ToldLemmas.{both_known, both_same, both_then}
use Rattle.dav_core.specs.declared.handle.DiskError.{DiskError}
use Rattle.dav_core.specs.declared.time.FileTime.{FileTime}
use Rattle.dav_core.specs.Disk.{DiskState}
use Rattle.dav_core.specs.Path.{Names}
use Rattle.dav_memory.specs.declared.entry.PathEntry.{PathEntry}
use Rattle.dav_memory.specs.declared.sealed.Sealed.{Sealed}
use Rattle.dav_memory.specs.declared.sealed.Sealed.TheVariants.{Done, Last, NoMemory as Starved}
use Rattle.dav_memory.specs.declared.key.DuEntry.{DuEntry}
use Rattle.dav_memory.specs.declared.key.DuKey.{DuKey}
use Rattle.dav_memory.specs.Calls.{Denies, LooksBy, Seals, dropped, has_time}
use Rattle.dav_memory.specs.Entries.{DotCache, Dots, Listed, PathCache, dir_key, inserted, is_old_dot, is_old_path, name_key, purged, put_dir, put_name, put_names, same_key, sealed, unless_old, without}
use Rattle.dav_memory.specs.Memory.{GetsBy, Inserts, MemoryState, Negates, Purges, SealsIn}
use Rattle.dav_memory.specs.Trees.{Name, same_path, fold_path as kept_path}
use Rattle.dav_local.specs.Made.{AllOf, IsDotOf, IsPathOf, MadeAt, NewAre}

-- ---- lists of entries

of_cond : {K X : Type 0} (test : X → Bool) (b : Bool) (e : K × X) (es : List (K × X)) → test e.1 ≡ true → AllOf test es → AllOf test (cond b (e ∷ es) es)
of_cond test true e es first all = (first, all)
of_cond test false e es first all = all

of_without : {K X : Type 0} (test : X → Bool) (gone : K → Bool) (es : List (K × X)) → AllOf test es → AllOf test (without gone es)
of_without test gone [] all = tt
of_without test gone (e ∷ es) all = of_cond test (not (gone e.0)) e (without gone es) all.0 (of_without test gone es all.1)

of_take : {K X : Type 0} (test : X → Bool) (n : ℕ) (es : List (K × X)) → AllOf test es → AllOf test (take n es)
of_take test zero es all = tt
of_take test (suc n) [] all = tt
of_take test (suc n) (e ∷ es) all = (all.0, of_take test n es all.1)

some_is : {X : Type 0} (x y : X) → ◌≡◌ {A = Option X} (Some x) (Some y) → x ≡ y
some_is x y e = cc

of_found : {K X : Type 0} (test : X → Bool) (key : K → Bool) (es : List (K × X)) (x : X) → lookup key es ≡ Some x → AllOf test es → test x ≡ true
of_found test key [] x is all = cc
of_found test key (f ∷ es) x is all = by_key (λ later. of_found test key es x later all.1) (key f.0) is
  where
    by_key : (lookup key es ≡ Some x → test x ≡ true) → (b : Bool) → cond b (Some f.1) (lookup key es) ≡ Some x → test x ≡ true
    by_key on true same = ap test (sym (some_is f.1 x same)) ∙ all.0
    by_key on false later = on later

of_last : {K X : Type 0} (test is_old : X → Bool) (e : K × X) (es : List (K × X)) → test e.1 ≡ true → AllOf test es → AllOf test (unless_old is_old e es)
of_last test is_old e [] first all = by (is_old e.1)
  where
    by : (b : Bool) → AllOf test (if b then [] else (e ∷ []))
    by true = tt
    by false = (first, tt)
of_last test is_old e (f ∷ fs) first all = (first, all)

of_purged : {K X : Type 0} (test is_old : X → Bool) (es : List (K × X)) → AllOf test es → AllOf test (purged is_old es)
of_purged test is_old [] all = tt
of_purged test is_old (e ∷ es) all = of_last test is_old e (purged is_old es) all.0 (of_purged test is_old es all.1)

-- ---- one call and another

pub made_same : (now : Moment) (old new : MemoryState) → new.paths ≡ old.paths → new.dots ≡ old.dots → MadeAt now old new
made_same now old new paths dots = record {
  paths = both_same old.paths new.paths (λ a b. NewAre (IsPathOf now) a.entries b.entries) (λ x test fresh all. all) paths;
  dots = both_same old.dots new.dots (λ a b. NewAre (IsDotOf now) a.entries b.entries) (λ x test fresh all. all) dots;
}

new_then : {K X : Type 0} (Fresh : X → Type 0) (a b c : List (K × X)) → NewAre Fresh a b → NewAre Fresh b c → NewAre Fresh a c
new_then Fresh a b c p q = λ test fresh all. q test fresh (p test fresh all)

pub made_then : (now : Moment) (old mid new : MemoryState) → MadeAt now old mid → MadeAt now mid new → MadeAt now old new
made_then now old mid new first next = record {
  paths = both_then old.paths mid.paths new.paths (λ a b. NewAre (IsPathOf now) a.entries b.entries) (λ a b. NewAre (IsPathOf now) a.entries b.entries)
      (λ a b. NewAre (IsPathOf now) a.entries b.entries) (λ a b c p q. new_then (IsPathOf now) a.entries b.entries c.entries p q) first.paths next.paths;
  dots = both_then old.dots mid.dots new.dots (λ a b. NewAre (IsDotOf now) a.entries b.entries) (λ a b. NewAre (IsDotOf now) a.entries b.entries)
      (λ a b. NewAre (IsDotOf now) a.entries b.entries) (λ a b c p q. new_then (IsDotOf now) a.entries b.entries c.entries p q) first.dots next.dots;
}

-- ---- the cache of paths

-- A path that is looked up makes no entry.
pub made_got : {A : Type 0} (call : DiskState → Names → Result A DiskError → DiskState → Type 0) (now : Moment) (old new : MemoryState) (names : Names) (s t : DiskState) (found : Option (Names × A))
    → GetsBy call old names s found new t → MadeAt now old new
made_got call now old new names s t found gets = record {
  paths = both_known old.paths new.paths (λ a b. LooksBy call (lookup (same_path (kept_path names)) a.entries) a names s found b t) (λ a b. NewAre (IsPathOf now) a.entries b.entries)
      (λ a b told looks. by_entry (lookup (same_path (kept_path names)) a.entries) a b refl looks) gets.paths;
  dots = both_same old.dots new.dots (λ a b. NewAre (IsDotOf now) a.entries b.entries) (λ x test fresh all. all) gets.dots;
}
  where
    by_entry : (o : Option PathEntry) (a b : PathCache) → lookup (same_path (kept_path names)) a.entries ≡ o → LooksBy call o a names s found b t → NewAre (IsPathOf now) a.entries b.entries
    by_entry None a b is (none, same, unasked) = λ test fresh all. subst (λ (c : PathCache). AllOf test c.entries) (sym same) all
    by_entry (Some e) a b is (Ok answer, called, there, same) = λ test fresh all.
        subst (λ (c : PathCache). AllOf test c.entries) (sym same)
        (of_found test (same_path (kept_path names)) a.entries e is all, of_without test (same_path (kept_path names)) a.entries all)
    by_entry (Some e) a b is (Err error, called, there, same) = λ test fresh all.
        subst (λ (c : PathCache). AllOf test c.entries) (sym same) (of_without test (same_path (kept_path names)) a.entries all)

-- A path that is put is an entry of its moment.
pub made_inserted : (now : Moment) (old new : MemoryState) (path : Names) → Inserts old path now new → MadeAt now old new
made_inserted now old new path inserts = record {
  paths = both_known old.paths new.paths (λ a b. b ≡ record a { entries = inserted a.size path now a.entries }) (λ a b. NewAre (IsPathOf now) a.entries b.entries)
      (λ a b told same test fresh all. subst (λ (c : PathCache). AllOf test c.entries) (sym same)
      (fresh _ refl, of_take test (a.size - 1) (without (same_path (kept_path path)) a.entries) (of_without test (same_path (kept_path path)) a.entries all)))
      inserts.paths;
  dots = both_same old.dots new.dots (λ a b. NewAre (IsDotOf now) a.entries b.entries) (λ x test fresh all. all) inserts.dots;
}

-- ---- the cache of absent names

of_names : (now : Moment) (test : DuEntry → Bool) → ((e : DuEntry) → IsDotOf now e → test e ≡ true) → (size : ℕ) (l : Listed) → l.moment ≡ now → (names : List Name) (dots : Dots) → AllOf test dots
    → AllOf test (put_names size l names dots)
of_names now test fresh size l is [] dots all = all
of_names now test fresh size l is (name ∷ names) dots all =
    of_names now test fresh size l is names (put_name size l name dots)
    (fresh _ is, of_take test (size - 1) (without (same_key (name_key l.dir name)) dots) (of_without test (same_key (name_key l.dir name)) dots all))

of_dir : (now : Moment) (test : DuEntry → Bool) → ((e : DuEntry) → IsDotOf now e → test e ≡ true) → (size : ℕ) (l : Listed) → l.moment ≡ now → (count : ℕ) (dots : Dots) → AllOf test dots
    → AllOf test (put_dir size l count dots)
of_dir now test fresh size l is count dots all =
    (fresh _ is, of_take test (size - 1) (without (same_key (dir_key l.dir)) dots) (of_without test (same_key (dir_key l.dir)) dots all))

of_sealed : (now : Moment) (test : DuEntry → Bool) → ((e : DuEntry) → IsDotOf now e → test e ≡ true) → (size : ℕ) (l : Listed) → l.moment ≡ now → (names : List Name) (room : ℕ) (dots : Dots)
    → AllOf test dots → AllOf test (sealed size l names room dots)
of_sealed now test fresh size l is names zero dots all = of_without test (same_key (dir_key l.dir)) dots all
of_sealed now test fresh size l is names (suc room) dots all = by (nat_lt room (length names))
  where
    first : AllOf test (put_dir size l (length names) dots)
    first = of_dir now test fresh size l is (length names) dots all

    by : (b : Bool) → AllOf test (if b then without (same_key (dir_key l.dir)) (put_names size l (take room names) (put_dir size l (length names) dots)) else put_names size l names (put_dir size l (length names) dots))
    by true = of_without test (same_key (dir_key l.dir)) (put_names size l (take room names) (put_dir size l (length names) dots))
        (of_names now test fresh size l is (take room names) (put_dir size l (length names) dots) first)
    by false = of_names now test fresh size l is names (put_dir size l (length names) dots) first

dots_sealed : (now : Moment) (a b : DotCache) (dir : DuKey) (time : FileTime) (names : List Name) (result : Sealed) → Seals a dir time now names result b → NewAre (IsDotOf now) a.entries b.entries
dots_sealed now a b dir time names Done (room, same) = λ test fresh all.
    subst (λ (c : DotCache). AllOf test c.entries) (sym same)
    (of_sealed now test fresh a.size (record { dir = dir.dir; time = time; moment = now; number = a.next }) refl names (length names + 1) a.entries all)
dots_sealed now a b dir time names Last (room, same) = λ test fresh all. subst (λ (c : DotCache). AllOf test c.entries) (sym same) all
dots_sealed now a b dir time names Starved (less, room, most, same) = λ test fresh all.
    subst (λ (c : DotCache). AllOf test c.entries) (sym same)
    (of_sealed now test fresh a.size (record { dir = dir.dir; time = time; moment = now; number = a.next }) refl names room a.entries all)

-- What a memory is sealed with has the moment.
pub made_sealed : (now : Moment) (old new : MemoryState) (dir : DuKey) (time : FileTime) (names : List Name) (result : Sealed) → SealsIn old dir time names now result new → MadeAt now old new
made_sealed now old new dir time names result seals = record {
  paths = both_same old.paths new.paths (λ a b. NewAre (IsPathOf now) a.entries b.entries) (λ x test fresh all. all) seals.paths;
  dots = both_known old.dots new.dots (λ a b. Seals a dir time now names result b) (λ a b. NewAre (IsDotOf now) a.entries b.entries)
      (λ a b told is. dots_sealed now a b dir time names result is) seals.dots;
}

-- A name that is asked about makes no entry.
pub made_negated : (now : Moment) (old new : MemoryState) (dir : Names) (name : Name) (s t : DiskState) (absent : Bool) → Negates old dir name s absent new t → MadeAt now old new
made_negated now old new dir name s t absent negates = record {
  paths = both_same old.paths new.paths (λ a b. NewAre (IsPathOf now) a.entries b.entries) (λ x test fresh all. all) negates.paths;
  dots = both_known old.dots new.dots (λ a b. Denies (lookup (same_key (dir_key dir)) a.entries) a dir name s absent b t) (λ a b. NewAre (IsDotOf now) a.entries b.entries)
      (λ a b told is. by_entry (lookup (same_key (dir_key dir)) a.entries) a b is) negates.dots;
}
  where
    kept : (a b : DotCache) (timed : Bool) → b ≡ (if timed then a else dropped dir a) → NewAre (IsDotOf now) a.entries b.entries
    kept a b true same = λ test fresh all. subst (λ (c : DotCache). AllOf test c.entries) (sym same) all
    kept a b false same = λ test fresh all. subst (λ (c : DotCache). AllOf test c.entries) (sym same) (of_without test (same_key (dir_key dir)) a.entries all)

    by_entry : (o : Option DuEntry) (a b : DotCache) → Denies o a dir name s absent b t → NewAre (IsDotOf now) a.entries b.entries
    by_entry None a b (none, same, unasked) = kept a b true same
    by_entry (Some e) a b (answer, metas, is, same) = kept a b (has_time e.time answer) same

-- ---- what is forgotten

-- A purge makes no entry.
pub made_purged : (now at : Moment) (old new : MemoryState) → Purges old at new → MadeAt now old new
made_purged now at old new purges = record {
  paths = both_known old.paths new.paths (λ a b. b ≡ record a { entries = purged (is_old_path at) a.entries }) (λ a b. NewAre (IsPathOf now) a.entries b.entries)
      (λ a b told same test fresh all. subst (λ (c : PathCache). AllOf test c.entries) (sym same) (of_purged test (is_old_path at) a.entries all)) purges.paths;
  dots = both_known old.dots new.dots (λ a b. b ≡ record a { entries = purged (is_old_dot at) a.entries }) (λ a b. NewAre (IsDotOf now) a.entries b.entries)
      (λ a b told same test fresh all. subst (λ (c : DotCache). AllOf test c.entries) (sym same) (of_purged test (is_old_dot at) a.entries all)) purges.dots;
}
