-- What steps keep that ask the memory, and what they remember.
use Rattle.std.proofs.Common.{◌≡◌, inl, inr, true, [], ◌∷◌, ◌++◌, Option, None, Some, IfSome, Result, Err, refl, sym, ap, subst, ◌∙◌}
use Rattle.std.proofs.lemmas.List.{map-append}
use Rattle.dav_io.proofs.ToldLemmas.{told_after, told_before}
use Rattle.dav_core.specs.declared.error.FsError.{FsError}
use Rattle.dav_core.specs.declared.error.FsError.TheVariants as fs
use Rattle.dav_core.specs.declared.time.FileTime.{FileTime}
use Rattle.dav_core.specs.Disk.{DiskState}
use Rattle.dav_core.specs.Path.{Names}
use Rattle.dav_core.specs.Tree.{is_linked, is_tree, look}
use Rattle.dav_core.specs.Unchanged.{Keeps, SameBesidesOpens}
use Rattle.dav_core.specs.World.{World}
use Rattle.dav_core.proofs.UnchangedLemmas.{keeps_same, keeps_then}
use Rattle.dav_store.specs.Files.{Spoiled}
use Rattle.dav_store.proofs.Reading.{rose_from}
use Rattle.dav_memory.specs.Entries.{PathCache, Paths}
use Rattle.dav_memory.specs.Memory.{LearnsNothing, MayDeny, MemoryState}
use Rattle.dav_model.specs.Folds.{Name, fold_name, fold_path}
use Rattle.dav_local.specs.Made.{MadeAt}
use Rattle.dav_local.specs.Places.{Place}
use Rattle.dav_local.specs.Remembering.{AllPaths, HasFirst, IsFirst, RemembersRows}
use Rattle.dav_local.specs.Walking.{IsAlikeIn, KeepsPlace, RemembersIn, StandsAt}
use Rattle.dav_local.proofs.Dating.{made_same, made_then}

-- ---- what is known

pub learns_none : (m : MemoryState) → LearnsNothing m m
learns_none m = record {
  known = λ dir time has e. (has, e, λ x. refl);
  same_open = λ dir time. refl;
}

pub learns_then : (a b c : MemoryState) → LearnsNothing a b → LearnsNothing b c → LearnsNothing a c
learns_then a b c first then = record {
  known = λ dir time has e.
      let (mid, was_mid, same_mid) = then.known dir time has e in
      let (had, was, same) = first.known dir time mid was_mid in
      (had, was, λ x. same_mid x ∙ same x);
  same_open = λ dir time. then.same_open dir time ∙ first.same_open dir time;
}

-- what may be denied after it might be before
pub denied_before : (a b : MemoryState) (dir : Names) (time : FileTime) (name : Name) → LearnsNothing a b → MayDeny b dir time name → MayDeny a dir time name
denied_before a b dir time name learns (inl (has, known, absent)) = let (had, was, same) = learns.known dir time has known in inl (had, was, sym (same name) ∙ absent)
denied_before a b dir time name learns (inr is_open) = inr (sym (learns.same_open dir time) ∙ is_open)

-- ---- places

pub place_same : (p : Place) → KeepsPlace p p
place_same p = record {
  ways = refl;
  keeps = keeps_same p.disk;
  learns = learns_none p.memory;
  dots = refl;
  tells = refl;
  moment = refl;
  made = made_same p.moment p.memory p.memory refl refl;
}

pub place_then : (p m q : Place) → KeepsPlace p m → KeepsPlace m q → KeepsPlace p q
place_then p m q first then = record {
  ways = then.ways ∙ first.ways;
  keeps = keeps_then p.disk m.disk q.disk first.keeps then.keeps;
  learns = learns_then p.memory m.memory q.memory first.learns then.learns;
  dots = then.dots ∙ first.dots;
  tells = then.tells ∙ first.tells;
  moment = then.moment ∙ first.moment;
  made = made_then p.moment p.memory m.memory q.memory first.made (subst (λ now. MadeAt now m.memory q.memory) first.moment then.made);
}

-- the disk alone was asked
pub place_disk : (p : Place) (t : DiskState) → Keeps p.disk t → KeepsPlace p (record p { disk = t })
place_disk p t keeps = record {
  ways = refl;
  keeps = keeps;
  learns = learns_none p.memory;
  dots = refl;
  tells = refl;
  moment = refl;
  made = made_same p.moment p.memory p.memory refl refl;
}

-- The world that is told then has the tree that was told first.
pub same_tree : (p m : Place) (w : World) → KeepsPlace p m → p.disk.told ≡ Some w → (v : World) × (m.disk.told ≡ Some v) × (v.tree ≡ w.tree)
same_tree p m w keeps told = let (v, now, same) = told_after p.disk.told m.disk.told SameBesidesOpens w keeps.keeps.world told in (v, now, same.tree)

-- ---- refusals

pub spoiled_after : {T U : Type 0} (p m q : Place) (e : FsError) → KeepsPlace p m → Spoiled {T = T} m.disk (Err e) q.disk → Spoiled {T = U} p.disk (Err e) q.disk
spoiled_after p m q e keeps (inl (is, rose)) =
    let same : e ≡ fs.GeneralFailure = cc in inl (ap (λ x. Err x) same, rose_from p.disk.faults m.disk.faults q.disk.faults keeps.keeps.counts rose)
spoiled_after p m q e keeps (inr none) = let same : e ≡ fs.NoMemory = cc in inr (ap (λ x. Err x) same)

pub error_of : {T : Type 0} (e : FsError) → ◌≡◌ {A = Result T FsError} (Err e) (Err fs.NoMemory) → e ≡ fs.NoMemory
error_of e is = cc

-- ---- names that fold alike

pub alike_folds : (at : Names) (name : Name) (next : Names) → IsAlikeIn at name next → fold_path next ≡ fold_path (at ++ name ∷ [])
alike_folds at name next (x, is, folds) =
    ap fold_path is ∙ map-append fold_name at (x ∷ []) ∙ ap (λ y. fold_path at ++ y ∷ []) folds ∙ sym (map-append fold_name at (name ∷ []))

first_in : (at names : Names) (entries : Paths) → fold_path at ≡ fold_path names → IsFirst at at entries → IsFirst names at entries
first_in at names [] folds first = absurd first
first_in at names (e ∷ es) folds first = (first.0 ∙ folds, first.1)

pub first_alike : (at names : Names) (memory : MemoryState) → fold_path at ≡ fold_path names → HasFirst at at memory → HasFirst names at memory
first_alike at names memory folds first = by_paths memory.paths first
  where
    by_paths : (paths : Option PathCache) → IfSome paths (λ c. IsFirst at at c.entries) → IfSome paths (λ c. IsFirst names at c.entries)
    by_paths None first = tt
    by_paths (Some c) first = first_in at names c.entries folds first

-- ---- what is remembered anew

pub rows_same : (p q : Place) → q.memory.paths ≡ p.memory.paths → RemembersIn p q
rows_same p q same = λ w test told is stands linked all. subst (λ paths. IfSome paths (λ c. AllPaths test c.entries)) (sym same) all

pub rows_then : (p m q : Place) → KeepsPlace p m → RemembersIn p m → RemembersIn m q → RemembersIn p q
rows_then p m q keeps first then = λ w test told is stands linked all.
    let (v, now, tree) = same_tree p m w keeps told in
    then v test now (ap is_tree tree ∙ is) (λ path row there. stands path row (ap (λ z. look z path) (sym tree) ∙ there))
    (λ path link. linked path (ap (λ z. is_linked z path) (sym tree) ∙ link)) (first w test told is stands linked all)

-- the world that was told before has the same tree
pub tree_before : (p m : Place) (w : World) → KeepsPlace p m → m.disk.told ≡ Some w → (v : World) × (p.disk.told ≡ Some v) × (w.tree ≡ v.tree)
tree_before p m w keeps told = let (v, was, same) = told_before p.disk.told m.disk.told SameBesidesOpens w keeps.keeps.world told in (v, was, same.tree)

-- what stood before stands still
pub stands_still : (p m : Place) (at : Names) → KeepsPlace p m → StandsAt p.disk at → StandsAt m.disk at
stands_still p m at keeps stands = λ w told is clear.
    let (v, was, tree) = tree_before p m w keeps told in
    let (row, there) = stands v was (ap is_tree (sym tree) ∙ is) (ap (λ z. is_linked z at) (sym tree) ∙ clear) in
    (row, ap (λ z. look z at) tree ∙ there)

pub remembers_rows : (p q : Place) → ((w : World) → p.disk.told ≡ Some w → is_tree w.tree ≡ true) → RemembersIn p q → RemembersRows p q
remembers_rows p q trees rows = λ w test told stands linked all. rows w test told (trees w told) stands linked all
