-- What a book tells stands in a world with such a tree.
use Rattle.std.proofs.Common.{◌≡◌, ◌⊎◌, inl, inr, ◌==◌, Bool, true, false, List, [], ◌∷◌, None, Some, codes, refl, ap, sym, ◌∙◌}
use Rattle.std.proofs.lemmas.Bool.{and_right}
use Rattle.std.specs.List.{AllByRecursion}
use Rattle.dav_core.specs.declared.time.FileTime.{FileTime}
use Rattle.dav_core.specs.Disk.{DiskState}
use Rattle.dav_core.specs.Path.{Names}
use Rattle.dav_core.specs.World.{World}
use Rattle.dav_core.proofs.UnchangedLemmas.{same_besides}
use Rattle.dav_model.specs.declared.step.Step.{Step}
use Rattle.dav_model.specs.Folds.{Name, dir_time, has_name}
use Rattle.dav_model.specs.Rules.{Rules, SameDots}
use Rattle.dav_model.specs.Still.{Fits, is_quiet}
use Rattle.dav_memory.specs.Trees.{same_path, same_time}
use Rattle.dav_memory.proofs.Keys.{path_decides, time_decides}
use Rattle.dav_shared.specs.Books.{has_in, one_book, seconds}
use Rattle.dav_sessions.specs.Sessions.{known_by_page}
use Rattle.session_rows.specs.Told.{AreQuiet, CanBeTold, IsQuiet, IsToldOf, TellsTree, told_tree}

-- ---- names of two letters and more, of which there is no other

not_d : (time : FileTime) (name x : Name) → Rattle.dav_model.specs.Folds.is_dot x ≡ true → has_in [] x ≡ has_name (told_tree time name) [] x
not_d time name [] dot = cc
not_d time name (a ∷ []) dot = cc
not_d time name (a ∷ b ∷ rest) dot = rw (and_right (Rattle.dav_memory.specs.Trees.is_dot (a ∷ b ∷ rest)) false refl, and_right (a == 100) false refl) refl

only_a : (time : FileTime) (x : Name) → Rattle.dav_model.specs.Folds.is_dot x ≡ true
    → has_in (codes "._a" ∷ []) x ≡ has_name (told_tree time (codes "._a")) (codes "d" ∷ []) x
only_a time [] dot = cc
only_a time (a ∷ []) dot = cc
only_a time (a ∷ b ∷ rest) dot = rw dot refl

-- ---- what the book tells

abbrev Tells : Names → FileTime → (Name → Bool) → Type 0
Tells dir time has = ((dir ≡ []) × (has ≡ has_in [])) ⊎ ((dir ≡ codes "d" ∷ []) × (time ≡ seconds 1) × (has ≡ has_in (codes "._a" ∷ [])))

tells : (dir : Names) (time : FileTime) (has : Name → Bool) → (known_by_page (one_book 1)).names dir time ≡ Some has → Tells dir time has
tells dir time has is = (elim (same_path dir []) as (λ b. same_path dir [] ≡ b → Tells dir time has) [
  | true ↦ λ root. inl (
    (path_decides dir []).0 root,
    (elim (same_time time (seconds 0)) as (λ b. same_time time (seconds 0) ≡ b → has ≡ has_in []) [
      | true ↦ λ at. let e : Some (has_in []) ≡ Some has = (rw (root, at) refl) ∙ is in cc
      | false ↦ λ at. let e : None ≡ Some has = (rw (root, at) refl) ∙ is in absurd cc
    ]) refl,
  )
  | false ↦ λ other. (elim (same_path dir (codes "d" ∷ [])) as (λ b. same_path dir (codes "d" ∷ []) ≡ b → Tells dir time has) [
    | true ↦ λ d.
        let now : (time ≡ seconds 1) × (has ≡ has_in (codes "._a" ∷ [])) =
        (elim (same_time time (seconds 1)) as (λ b. same_time time (seconds 1) ≡ b → (time ≡ seconds 1) × (has ≡ has_in (codes "._a" ∷ []))) [
          | true ↦ λ at. let e : Some (has_in (codes "._a" ∷ [])) ≡ Some has = (rw (other, d, at) refl) ∙ is in ((time_decides time (seconds 1)).0 at, cc)
          | false ↦ λ at. let e : None ≡ Some has = (rw (other, d, at) refl) ∙ is in absurd cc
        ]) refl in
        inr ((path_decides dir (codes "d" ∷ [])).0 d, now.0, now.1)
    | false ↦ λ d. let e : None ≡ Some has = (rw (other, d) refl) ∙ is in absurd cc
  ]) refl
]) refl

-- where the directory has the time at which the book tells of it
same_dots : (at : FileTime) (name : Name) → (at ≡ seconds 1 → name ≡ codes "._a") → (dir : Names) (time : FileTime) (has : Name → Bool)
    → Tells dir time has → dir_time (told_tree at name) dir ≡ Some time → SameDots has (has_name (told_tree at name) dir)
same_dots at name book dir time has (inl (root, is)) stands = rw (root, is) (not_d at name)
same_dots at name book dir time has (inr (d, told, is)) stands =
    let now : Some at ≡ Some time = ap (dir_time (told_tree at name)) (sym d) ∙ stands in
    let same : at ≡ seconds 1 = cc in
    rw (d, is, book same) (only_a at)

pub fits : (at : FileTime) (name : Name) (w : World) → (at ≡ seconds 1 → name ≡ codes "._a") → w.tree ≡ told_tree at name → Fits (known_by_page (one_book 1)) w
fits at name w book tree = rw tree (record {
  way = λ dir time has is. refl;
  names = λ dir time has is stands. same_dots at name book dir time has (tells dir time has is) stands;
})

-- ---- a session over such a disk

quiet_by : (rules : Rules) (steps : List Step) → AllByRecursion IsQuiet steps → AllByRecursion (λ step. is_quiet rules step ≡ true) steps
quiet_by rules [] quiet = tt
quiet_by rules (step ∷ steps) (first, others) = (first rules, quiet_by rules steps others)

pub told_still : (time : FileTime) (name : Name) (s : DiskState) (steps : List Step) → CanBeTold time name → TellsTree time name s → AreQuiet steps → IsToldOf s steps
told_still time name s steps can tells quiet = record {
  still = λ rules. record {
    world = tells.world;
    stands = record { now = tells.world; told = tells.told; same = same_besides tells.world; script = tells.script };
    quiet = quiet_by rules steps quiet.quiet;
    fits = fits time name tells.world can.book tells.tree;
  };
  room = quiet.room;
}
