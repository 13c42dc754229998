-- The directory above a path is remembered before it.
use Rattle.std.proofs.Common.{◌≡◌, ◌≢◌, ◌⊎◌, inl, inr, ◌<◌, ◌+◌, ◌-◌, ℕ, zero, suc, true, false, cond, not, take, length, [], ◌∷◌, ◌++◌, Option, None, Some, IfSome, Result, Ok, Err, refl, sym, ap, subst, ◌∙◌, arith}
use Rattle.std.proofs.lemmas.List.{length-append, length-map}
use Rattle.std.specs.Map.{lookup}
use Rattle.dav_io.specs.Told.{Both}
use Rattle.dav_io.specs.declared.clock.Moment.{Moment}
use Rattle.dav_core.specs.Disk.{DiskState}
use Rattle.dav_core.specs.Path.{Names}
use Rattle.dav_core.specs.Tree.{is_linked, look}
use Rattle.dav_core.specs.declared.handle.DiskError.{DiskError}
use Rattle.dav_memory.specs.declared.entry.PathEntry.{PathEntry}
use Rattle.dav_memory.specs.Calls.{LooksBy}
use Rattle.dav_memory.specs.Entries.{PathCache, Paths, inserted, without}
use Rattle.dav_memory.specs.Memory.{MemoryState}
use Rattle.dav_memory.specs.Trees.{same_path, fold_path as kept_path, fold_name as kept_name}
use Rattle.dav_memory.proofs.Keys.{path_tells}
use Rattle.dav_model.specs.Folds.{Name, fold_name, fold_path}
use Rattle.dav_local.specs.Places.{Place}
use Rattle.dav_local.specs.Remembering.{HasFirst, HasNext, IsFirst, IsFoundIn, IsNext}
use Rattle.dav_local.specs.Walking.{KeepsPlace}
use Rattle.dav_local.proofs.Memories.{same_tree}

-- ---- paths

-- Paths that are equal have equal directories.
pub dir_same : (a b : Names) (x y : Name) → a ++ x ∷ [] ≡ b ++ y ∷ [] → a ≡ b
dir_same [] [] x y e = refl
dir_same [] (d ∷ []) x y e = cc
dir_same [] (d ∷ f ∷ b) x y e = cc
dir_same (c ∷ []) [] x y e = cc
dir_same (c ∷ f ∷ a) [] x y e = cc
dir_same (c ∷ a) (d ∷ b) x y e =
    let head : c ≡ d = cc in
    let tails : a ++ x ∷ [] ≡ b ++ y ∷ [] = cc in
    ap (λ z. c ∷ z) (dir_same a b x y tails) ∙ ap (λ z. z ∷ b) head

pub no_root : {A : Type 0} (dir : Names) (x : Name) → [] ≡ dir ++ x ∷ [] → A
no_root [] x e = cc
no_root (d ∷ dir) x e = cc

-- What is two names and more below a place is in a directory below it.
pub dir_below : (dir at : Names) (n name y : Name) (ys : Names) → dir ++ n ∷ [] ≡ at ++ name ∷ y ∷ ys → (zs : Names) × (dir ≡ at ++ name ∷ zs)
dir_below [] [] n name y ys e = cc
dir_below (d ∷ dir) [] n name y ys e = let head : d ≡ name = cc in (dir, ap (λ z. z ∷ dir) head)
dir_below [] (a ∷ []) n name y ys e = cc
dir_below [] (a ∷ b ∷ at) n name y ys e = cc
dir_below (d ∷ dir) (a ∷ at) n name y ys e =
    let head : d ≡ a = cc in
    let tails : dir ++ n ∷ [] ≡ at ++ name ∷ y ∷ ys = cc in
    let (zs, is) = dir_below dir at n name y ys tails in
    (zs, ap (λ z. d ∷ z) is ∙ ap (λ z. z ∷ at ++ name ∷ zs) head)

-- A path doesn't fold like its directory.
pub folds_apart : (dir : Names) (x : Name) → fold_path (dir ++ x ∷ []) ≢ fold_path dir
folds_apart dir x e =
    let long : length (dir ++ x ∷ []) ≡ length dir + 1 = length-append dir (x ∷ []) in
    let same : length (dir ++ x ∷ []) ≡ length dir = sym (length-map (dir ++ x ∷ []) fold_name) ∙ ap length e ∙ length-map dir fold_name in
    absurd (omega (arith, long, same))

pub no_names : (names : Names) → length names ≡ 0 → names ≡ []
no_names [] e = refl
no_names (x ∷ names) e = absurd (omega arith)

pub no_folds : (dir : Names) → fold_path dir ≡ [] → dir ≡ []
no_folds [] e = refl
no_folds (d ∷ dir) e = cc

-- ---- entries

-- a memory folds as the rules do
pub same_folds : (path : Names) → kept_path path ≡ fold_path path
unfolding kept_path kept_name
same_folds path = refl

-- What came first comes next, when another path is put.
pub next_put : (size : ℕ) (at dir : Names) (now : Moment) (entries : Paths) → 1 < size → fold_path at ≢ fold_path dir → IsFirst dir dir entries → IsNext dir at (inserted size at now entries)
next_put size at dir now [] room apart first = absurd first
next_put size at dir now (e ∷ es) room apart first = inr (same_folds at, by_key (path_tells (kept_path at) e.0))
  where
    first_of : (n : ℕ) → 0 < n → IsFirst dir dir (take n (e ∷ without (same_path (kept_path at)) es))
    first_of zero some = absurd (omega (arith, some))
    first_of (suc n) some = first

    by_key : ((same_path (kept_path at) e.0 ≡ true) × (kept_path at ≡ e.0)) ⊎ ((same_path (kept_path at) e.0 ≡ false) × (kept_path at ≢ e.0))
        → IsFirst dir dir (take (size - 1) (without (same_path (kept_path at)) (e ∷ es)))
    by_key (inl (test, is)) = absurd (apart (sym (same_folds at) ∙ is ∙ first.0))
    by_key (inr (test, other)) =
        subst (λ b. IsFirst dir dir (take (size - 1) (cond (not b) (e ∷ without (same_path (kept_path at)) es) (without (same_path (kept_path at)) es)))) (sym test)
        (first_of (size - 1) (omega (arith, room)))

next_in : (dir at names : Names) (entries : Paths) → fold_path at ≡ fold_path names → IsNext dir at entries → IsNext dir names entries
next_in dir at names [] folds next = absurd next
next_in dir at names (e ∷ es) folds (inl first) = inl first
next_in dir at names (e ∷ es) folds (inr (key, first)) = inr (key ∙ folds, first)

-- It is next to each path that folds alike.
pub next_alike : (dir at names : Names) (memory : MemoryState) → fold_path at ≡ fold_path names → HasNext dir at memory → HasNext dir names memory
next_alike dir at names memory folds next = by_paths memory.paths next
  where
    by_paths : (paths : Option PathCache) → IfSome paths (λ c. 1 < c.size → IsNext dir at c.entries) → IfSome paths (λ c. 1 < c.size → IsNext dir names c.entries)
    by_paths None next = tt
    by_paths (Some c) next = λ room. next_in dir at names c.entries folds (next room)

next_of : (dir names : Names) (entries : Paths) → IsFirst dir dir entries → IsNext dir names entries
next_of dir names [] first = absurd first
next_of dir names (e ∷ es) first = inl first

-- What comes first is next to any path.
pub first_next : (dir names : Names) (memory : MemoryState) → HasFirst dir dir memory → HasNext dir names memory
first_next dir names memory first = by_paths memory.paths first
  where
    by_paths : (paths : Option PathCache) → IfSome paths (λ c. IsFirst dir dir c.entries) → IfSome paths (λ c. 1 < c.size → IsNext dir names c.entries)
    by_paths None first = tt
    by_paths (Some c) first = λ room. next_of dir names c.entries first

-- what was found for a path that folds alike comes first for itself
pub first_itself : (asked at : Names) (memory : MemoryState) → fold_path at ≡ fold_path asked → HasFirst asked at memory → HasFirst at at memory
first_itself asked at memory folds first = by_paths memory.paths first
  where
    by_entries : (entries : Paths) → IsFirst asked at entries → IsFirst at at entries
    by_entries [] first = absurd first
    by_entries (e ∷ es) first = (first.0 ∙ sym folds, first.1)

    by_paths : (paths : Option PathCache) → IfSome paths (λ c. IsFirst asked at c.entries) → IfSome paths (λ c. IsFirst at at c.entries)
    by_paths None first = tt
    by_paths (Some c) first = by_entries c.entries first

-- A path that is put has what came first next to it.
pub told_next : (old new : Option PathCache) (at : Names) (now : Moment) → Both old new (λ a b. b ≡ record a { entries = inserted a.size at now a.entries }) → (dir : Names)
    → IfSome old (λ c. IsFirst dir dir c.entries) → fold_path at ≢ fold_path dir → IfSome new (λ c. 1 < c.size → IsNext dir at c.entries)
told_next None None at now both dir first apart = tt
told_next None (Some b) at now both dir first apart = absurd both
told_next (Some a) None at now both dir first apart = absurd both
told_next (Some a) (Some b) at now both dir first apart =
    subst (λ (c : PathCache). 1 < c.size → IsNext dir at c.entries) (sym both) (λ room. next_put a.size at dir now a.entries room apart first)

-- ---- what the memory had

-- What is found by the memory stood in it at that place.
pub had_there : {A : Type 0} (call : DiskState → Names → Result A DiskError → DiskState → Type 0) (old new : Option PathCache) (names : Names) (s t : DiskState) (f : Names × A)
    → Both old new (λ a b. LooksBy call (lookup (same_path (kept_path names)) a.entries) a names s (Some f) b t)
    → IfSome old (λ c. (e : PathEntry) → lookup (same_path (fold_path names)) c.entries ≡ Some e → e.path ≢ f.0) → (dir : Names) → IfSome new (λ c. 1 < c.size → IsNext dir names c.entries)
had_there {A = A} call None None names s t f both unheld dir = tt
had_there {A = A} call None (Some b) names s t f both unheld dir = absurd both
had_there {A = A} call (Some a) None names s t f both unheld dir = absurd both
had_there {A = A} call (Some a) (Some b) names s t f both unheld dir = absurd (by_entry (lookup (same_path (kept_path names)) a.entries) refl both)
  where
    by_entry : (o : Option PathEntry) → lookup (same_path (kept_path names)) a.entries ≡ o → LooksBy call o a names s (Some f) b t → ⊥
    by_entry None is (none, same, unasked) = cc
    by_entry (Some e) is (Err error, called, there, same) = cc
    by_entry (Some e) is (Ok answer, called, there, same) =
        let here : ◌≡◌ {A = Option (Names × A)} (Some f) (Some (e.path, answer)) = there in
        let place : f ≡ (e.path, answer) = cc in
        unheld e (ap (λ k. lookup (same_path k) a.entries) (sym (same_folds names)) ∙ is) (sym (ap (λ (g : Names × A). g.0) place))

-- ---- one place and another

-- What was found in a directory is, after all but the cache of paths was kept.
pub found_in_on : (p m : Place) (names at dir : Names) → KeepsPlace p m → (e : IsFoundIn p names at dir) → (f : IsFoundIn m names at dir) × (f.world.tree ≡ e.world.tree)
found_in_on p m names at dir keeps e =
    let (v, now, tree) = same_tree p m e.world keeps e.told in (
      record {
        world = v;
        told = now;
        error = e.error;
        missing = ap (λ z. look z names) tree ∙ e.missing;
        way = ap (λ z. is_linked z names) tree ∙ e.way;
        name = e.name;
        place = e.place;
        deep = e.deep;
        row = e.row;
        stands = ap (λ z. look z dir) tree ∙ e.stands;
        clear = ap (λ z. is_linked z dir) tree ∙ e.clear;
      },
      tree,
    )
