-- Each path entry's key is the folding of its path, and what a caller got folds like what it asked. No premise is needed.
use Rattle.std.proofs.Common.{◌≡◌, ℕ, zero, suc, ◌-◌, Bool, true, false, List, [], ◌∷◌, take, Some, refl, sym, ap, subst, ◌∙◌, inl, inr, slice_get}
use Rattle.std.specs.Map.{lookup}
use Rattle.dav_memory.specs.Trees.{Names, Tree, same_path, fold_path}
use Rattle.dav_memory.specs.Entries.{Paths, without, is_old_path}
use Rattle.dav_memory.specs.declared.entry.PathEntry.{PathEntry}
use Rattle.dav_cache.specs.Core.{Event, State, Place, Turn, turn, step, run, start}
use Rattle.dav_cache.specs.declared.place.Place.TheVariants.{Idle, Got}
pub use Rattle.dav_cache.specs.Transparency.{AllFolded}
use Rattle.dav_cache.specs.Transparency.{fits}
use Rattle.dav_memory.proofs.Keys.{path_decides}
use Rattle.dav_memory.proofs.Lists.{purged-take}
use Rattle.dav_cache.proofs.Places.{get-replicate}
use Rattle.dav_cache.proofs.Turns.{PathsTurn, paths_stay, path_rises, path_goes, path_comes, paths_age, Came, Turned, misplaced, turned, each_turn}

-- ---- path entries

pub folded-take : (n : ℕ) (es : Paths) → AllFolded es → AllFolded (take n es)
folded-take zero es all = tt
folded-take (suc n) [] all = tt
folded-take (suc n) (e ∷ es) all = (all.0, folded-take n es all.1)

pub folded-without : (test : Names → Bool) (es : Paths) → AllFolded es → AllFolded (without test es)
folded-without test [] all = tt
folded-without test (e ∷ es) all = (elim (test e.0) as (λ y. test e.0 ≡ y → AllFolded (without test (e ∷ es))) [
  | true ↦ λ t. rw t (folded-without test es all.1)
  | false ↦ λ t. rw t (all.0, folded-without test es all.1)
]) refl

pub folded-lookup : (key : Names) (es : Paths) (e : PathEntry) → AllFolded es → lookup (same_path key) es ≡ Some e → fold_path e.path ≡ key
folded-lookup key [] e all h = cc
folded-lookup key (f ∷ fs) e all h = (elim (same_path key f.0) as (λ y. same_path key f.0 ≡ y → fold_path e.path ≡ key) [
  | true ↦ λ t.
      let s : Some f.1 ≡ Some e = rw t at h in
      let same : f.1 ≡ e = cc in
      sym (ap (λ (w : PathEntry). fold_path w.path) same) ∙ sym all.0 ∙ sym ((path_decides key f.0).0 t)
  | false ↦ λ t. folded-lookup key fs e all.1 (rw t at h)
]) refl

-- ---- the invariant of the path entries

abbrev pub PathOk : Place → Type 0
PathOk (Got asked path) = fold_path path ≡ fold_path asked
PathOk _ = Unit {0}

pub record PathsOk (s : State) : Type 0 where
  pub folded : AllFolded s.paths
  pub places : (c : ℕ) (p : Place) → slice_get s.places c ≡ Some p → PathOk p

-- the entries that a turn leaves
folded_turn : (s : State) (es : Paths) → PathsTurn s es → AllFolded s.paths → AllFolded es
folded_turn s es paths_stay old = old
folded_turn s es (path_rises key e found) old = (sym (folded-lookup key s.paths e old found), folded-without (same_path key) s.paths old)
folded_turn s es (path_goes key) old = folded-without (same_path key) s.paths old
folded_turn s es (path_comes path now) old =
    let others = without (same_path (fold_path path)) s.paths in
    (refl, folded-take (s.paths_size - 1) others (folded-without (same_path (fold_path path)) s.paths old))
folded_turn s es (paths_age now) old =
    let is = purged-take (is_old_path now) s.paths in subst AllFolded (sym is.1) (folded-take is.0 s.paths old)

-- a place that a caller comes to
came_ok : (s : State) (e : Event) (c : ℕ) (p : Place) → AllFolded s.paths → Came s e c p → PathOk p
came_ok s e c (Got asked path) old came =
    let (by_get, from, entry, found, is) = came in
    subst (λ w. fold_path w ≡ fold_path asked) is (folded-lookup (fold_path asked) s.paths entry old found)
came_ok s e c _ old came = tt

turn_ok : (s : State) (e : Event) (t : Turn) (b : Bool) → Turned s e t b → PathsOk s → PathsOk t.0
turn_ok s e t b misplaced old = old
turn_ok s e t b (turned u tells made) old = record {
  folded = folded_turn s u.0.paths made.paths old.folded;
  places = λ c p h. elim (made.places c p h) [ inl (was, other) ↦ old.places c p was | inr (mine, came) ↦ came_ok s e c p old.folded came ];
}

pub run_ok : (s : State) (events : List Event) → PathsOk s → PathsOk (run s events)
run_ok s [] old = old
run_ok s (e ∷ events) old = run_ok (step s e) events (turn_ok s e (turn s e) (fits s e) (each_turn s e) old)

pub start_ok : (tree : Tree) (callers paths dots : ℕ) → PathsOk (start tree callers paths dots)
start_ok tree callers paths dots = record { folded = tt; places = λ c p h. subst PathOk (get-replicate callers c Idle p h) tt }
