-- The names of a sealed listing stand as long as the directory's entry does.
use Rattle.std.proofs.Common.{◌≡◌, ℕ, ◌<◌, ◌≤◌, ◌^◌, ◌-◌, Bool, true, List, [], ◌∷◌, ◌++◌, Some, sym, ap, subst, ◌∙◌, arith, inl, inr, ◌⊎◌}
use Rattle.std.specs.List.{list_any}
use Rattle.std.specs.Map.{lookup}
use Rattle.std.proofs.lemmas.Bool.{lt-ltb}
use Rattle.dav_memory.specs.Trees.{Name, Names, FileTime, Tree, same_name}
use Rattle.dav_memory.specs.Entries.{Dots, Listed, AreCounted, without, purged, sealed, is_old_dot, dir_key, name_key, same_key, stands}
use Rattle.dav_memory.specs.declared.key.DuEntry.{DuEntry}
use Rattle.dav_cache.specs.Core.{Event, Moment, State, Turn, Listing, goes, new_dots, with_dots, seal, turn, step, run, start}
use Rattle.dav_cache.specs.declared.event.Event.TheVariants.{Seal}
use Rattle.dav_cache.specs.declared.place.Place.TheVariants.{Idle}
use Rattle.dav_cache.specs.declared.event.Told.TheVariants.{Nothing}
use Rattle.dav_cache.specs.Transparency.{ListedStand, fits}
use Rattle.dav_memory.proofs.Keys.{path_tells}
use Rattle.dav_memory.proofs.Lists.{purged-take}
use Rattle.dav_cache.proofs.History.{run-append}
use Rattle.dav_cache.proofs.Turns.{DotsTurn, dots_stay, dir_goes, dots_age, dir_comes, Turned, misplaced, turned, each_turn}
use Rattle.dav_cache.proofs.Facts.{FactsOk, step_facts, run_facts, start_facts}
use Rattle.dav_cache.proofs.MemoryCalls.{SameFor, same-self, same-take, same-dropped, sealed-others, sealed-own}

-- where a directory's entry stands after an event, it stood before with the same names, or has a new number
abbrev pub SameOrNew : State → Dots → Names → Type 0
SameOrNew s dots d = (e : DuEntry) → lookup (same_key (dir_key d)) dots ≡ Some e
    → ((lookup (same_key (dir_key d)) s.dots ≡ Some e) × ((x : Name) → stands dots (name_key d x) e.number ≡ stands s.dots (name_key d x) e.number)) ⊎ (s.next ≤ e.number)

pub record Moves (s : State) (left : Dots) (next : ℕ) : Type 0 where
  pub more : s.next ≤ next
  pub dots : (d : Names) → SameOrNew s left d

-- the entries are such
moved : (s : State) (dots : Dots) → ((d : Names) → SameFor d s.dots dots) → Moves s dots s.next
moved s dots same = record { more = omega arith; dots = λ d e h. inl (same d e h) }

dots_move : (s : State) (dots : Dots) (next : ℕ) → DotsTurn s dots next → AreCounted s.next s.dots → Moves s dots next
dots_move s dots next dots_stay kept = moved s s.dots (λ d. same-self d s.dots)
dots_move s dots next (dir_goes dir) kept = moved s (without (same_key (dir_key dir)) s.dots) (λ d. same-dropped d dir s.dots)
dots_move s dots next (dots_age now) kept =
    let cut = purged-take (is_old_dot now) s.dots in
    moved s (purged (is_old_dot now) s.dots) (λ d. subst (λ w. SameFor d s.dots w) (sym cut.1) (same-take d cut.0 s.dots kept.falling))
dots_move s dots next (dir_comes c l after time now room at is) kept =
    let listed : Listed = record { dir = l.dir; time = time; moment = now; number = s.next } in
    let left : Dots = sealed s.dots_size listed l.names room s.dots in
    record {
      more = omega arith;
      dots = λ d e h. elim (path_tells l.dir d) [
        | inl is ↦
            let own = sealed-own s.dots_size s.dots listed kept l.names room e (subst (λ w. lookup (same_key (dir_key w)) left ≡ Some e) (sym is.1) h) in
            let n : e.number ≡ s.next = own.0 in
            inr (omega arith)
        | inr ne ↦ inl (sealed-others s.dots_size s.dots listed kept d l.names room (λ q. ne.1 (sym q)) e h)
      ];
    }

turn_moves : (s : State) (e : Event) (t : Turn) (b : Bool) → Turned s e t b → AreCounted s.next s.dots → Moves s t.0.dots t.0.next
turn_moves s e t b misplaced kept = moved s s.dots (λ d. same-self d s.dots)
turn_moves s e t b (turned u tells made) kept = dots_move s u.0.dots u.0.next made.dots kept

step_moves : (s : State) (e : Event) → AreCounted s.next s.dots → Moves s (step s e).dots (step s e).next
step_moves s e kept = turn_moves s e (turn s e) (fits s e) (each_turn s e) kept

-- ---- the names of one listing

module _ (dir : Names) (n : ℕ) (names : List Name) where
  -- where the directory's entry stands with the number, so do the names
  abbrev pub AllStand : Dots → Type 0
  AllStand dots = (e : DuEntry) → lookup (same_key (dir_key dir)) dots ≡ Some e → e.number ≡ n → (x : Name) → list_any (same_name x) names ≡ true → stands dots (name_key dir x) e.number ≡ true

  stand-step : (s : State) (e : Event) → AreCounted s.next s.dots → n < s.next → AllStand s.dots → AllStand (step s e).dots
  stand-step s event kept given all e h is x listed = elim ((step_moves s event kept).dots dir e h) [
    | inl was ↦ was.1 x ∙ all e was.0 is x listed
    | inr new ↦ absurd (omega arith)
  ]

  stand-run : (s : State) (events : List Event) → FactsOk s → n < s.next → AllStand s.dots → AllStand (run s events).dots
  stand-run s [] facts given all = all
  stand-run s (e ∷ events) facts given all =
      let more = (step_moves s e facts.dots).more in
      stand-run (step s e) events (step_facts s e facts) (omega arith) (stand-step s e facts.dots given all)

-- the seal itself
module _ (s : State) (c : ℕ) (l : Listing) (now : Moment) (room : ℕ) (time : FileTime) (kept : AreCounted s.next s.dots) (left : s.next < 2 ^ 64 - 1) where
  abbrev sealed-to : State
  sealed-to = with_dots s (new_dots s l now room (Some time))

  sealed_stand : AllStand l.dir s.next l.names sealed-to.dots × (s.next < sealed-to.next)
  unfolding new_dots
  sealed_stand =
      let listed : Listed = record { dir = l.dir; time = time; moment = now; number = s.next } in
      let dots : Dots = sealed s.dots_size listed l.names room s.dots in
      rw (lt-ltb s.next (2 ^ 64 - 1) left) (λ e h is x listed_. (sealed-own s.dots_size s.dots listed kept l.names room e h).2 x ∙ listed_, omega arith)

pub listed_stand : (tree : Tree) (callers paths dots : ℕ) → ListedStand (start tree callers paths dots)
listed_stand tree callers paths dots bs after_ c l found time now room place settled_ left e h is x listed =
    let s0 = start tree callers paths dots in
    let s = run s0 bs in
    let facts = run_facts s0 bs (start_facts tree callers paths dots) in
    let event = Seal c now room in
    let goes_ : (step s event) ≡ (goes (with_dots s (new_dots s l now room (Some time))) c Idle Nothing).0 =
    ap (λ o. (seal s c now room o).0) place ∙ ap (λ o. (goes (with_dots s (new_dots s l now room o)) c Idle Nothing).0) settled_ in
    let stand = sealed_stand s c l now room time facts.dots left in
    let first : AllStand l.dir s.next l.names (step s event).dots = subst (λ (t : State). AllStand l.dir s.next l.names t.dots) (sym goes_) stand.0 in
    let given : s.next < (step s event).next = subst (λ (t : State). s.next < t.next) (sym goes_) stand.1 in
    let all = stand-run l.dir s.next l.names (step s event) after_ (step_facts s event facts) given first in
    let parts : run s0 (bs ++ event ∷ after_) ≡ run (step s event) after_ = run-append s0 bs (event ∷ after_) in
    subst (λ (t : State). stands t.dots (name_key l.dir x) e.number ≡ true) (sym parts) (all e (subst (λ (t : State). lookup (same_key (dir_key l.dir)) t.dots ≡ Some e) parts h) is x listed)
