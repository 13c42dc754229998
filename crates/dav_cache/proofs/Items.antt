-- The three items.
use Rattle.std.proofs.Common.{◌≡◌, ℕ, ◌==◌, Bool, true, false, not, [], ◌∷◌, ◌++◌, Option, Some, None, refl, sym, ap, subst, ◌∙◌, Contains}
use Rattle.std.specs.Map.{lookup}
use Rattle.std.specs.Option.{option_map_or}
use Rattle.std.proofs.lemmas.List.{append-nil}
use Rattle.std.proofs.lemmas.Bool.{false≢true, and_parts, not-true, eqb-true}
use Rattle.dav_memory.specs.Trees.{Names, Tree}
use Rattle.dav_memory.specs.Entries.{Dots, dir_key, name_key, same_key, stands}
use Rattle.dav_memory.specs.declared.key.DuKey.{DuKey}
use Rattle.dav_memory.specs.declared.key.DuEntry.{DuEntry}
use Rattle.dav_cache.specs.Core.{Event, State, Turn, turn, told, run, start}
use Rattle.dav_cache.specs.declared.event.Event.TheVariants.{Check}
use Rattle.dav_cache.specs.declared.place.Place.TheVariants.{Passed, Got}
use Rattle.dav_cache.specs.declared.event.Told.TheVariants.{Absent, Path}
use Rattle.dav_cache.specs.Transparency.{IsFair, trees_of, AbsentOnlyWhereAbsent, PathOnlyWhereThere, ChecksAreHeld, fits}
use Rattle.dav_cache.proofs.Runs.{at_moment}
use Rattle.dav_cache.proofs.Turns.{TellsAbsent, TellsPath, Tells, Turned, misplaced, turned, each_turn}
use Rattle.dav_cache.proofs.History.{all_tell}
use Rattle.dav_cache.proofs.Paths.{run_ok, start_ok}

-- ---- which events tell Absent(true) or a path

turn_denies : (s : State) (e : Event) (t : Turn) (b : Bool) → Turned s e t b → t.1 ≡ Absent true → TellsAbsent s e
turn_denies s e t b misplaced is = absurd cc
turn_denies s e t b (turned u tells made) is = subst (Tells s e) is tells

absent_told : (s : State) (e : Event) → told s e ≡ Absent true → TellsAbsent s e
absent_told s e is = turn_denies s e (turn s e) (fits s e) (each_turn s e) is

turn_finds : (s : State) (e : Event) (path : Names) (t : Turn) (b : Bool) → Turned s e t b → t.1 ≡ Path (Some path) → TellsPath s e path
turn_finds s e path t b misplaced is = absurd cc
turn_finds s e path t b (turned u tells made) is = subst (Tells s e) is tells

path_told : (s : State) (e : Event) (path : Names) → told s e ≡ Path (Some path) → TellsPath s e path
path_told s e path is = turn_finds s e path (turn s e) (fits s e) (each_turn s e) is

-- ---- item 1

stands_entry : (dots : Dots) (key : DuKey) (n : ℕ) → stands dots key n ≡ true → (e : DuEntry) × (lookup (same_key key) dots ≡ Some e) × (e.number ≡ n)
stands_entry dots key n h = by_lookup (lookup (same_key key) dots) refl h
  where
    by_lookup : (o : Option DuEntry) → lookup (same_key key) dots ≡ o → option_map_or (λ (e : DuEntry). e.number == n) o false ≡ true
        → (e : DuEntry) × (lookup (same_key key) dots ≡ Some e) × (e.number ≡ n)
    by_lookup None is t = absurd (false≢true t)
    by_lookup (Some e) is t = (e, is, eqb-true e.number n t)

pub absent_only : (tree : Tree) (callers paths dots : ℕ) → AbsentOnlyWhereAbsent (start tree callers paths dots)
absent_only tree callers paths dots events event fair is =
    let s0 = start tree callers paths dots in
    let s = run s0 events in
    let (c, dir, name, number, t, concludes_, place, yes_) = absent_told s event is in
    let check = (all_tell tree callers paths dots events c (Passed dir name number t) place).0 in
    let parts' : check.before ++ Check c false ∷ check.between ≡ events ++ [] = sym check.parts ∙ sym (append-nil events) in
    let fair' : IsFair (events ++ []) s0 = subst (λ l. IsFair l s0) (sym (append-nil events)) fair in
    let then_ = at_moment tree callers paths dots check.before (Check c false ∷ check.between) (subst (λ l. IsFair l s0) check.parts fair) in
    let known : Contains (trees_of s0 (events ++ [])) (run s0 check.before).tree = subst (λ l. Contains (trees_of s0 l) (run s0 check.before).tree) parts' then_.entries.known in
    let now = at_moment tree callers paths dots events [] fair' in
    let holds = now.places c (Passed dir name number t) place in
    let tests = and_parts (stands s.dots (dir_key dir) number) (not (stands s.dots (name_key dir name) number)) yes_ in
    let entry = stands_entry s.dots (dir_key dir) number tests.0 in
    let time = (holds.one dir entry.0 entry.1 entry.2).1 in
    record {
      caller = c;
      is_conclude = concludes_;
      dir = dir;
      name = name;
      earlier = check.earlier;
      before = check.before;
      between = check.between;
      parts = check.parts;
      asked = check.asked;
      waited = check.waited;
      absent = λ dot.
          now.entries.sound dir entry.0 entry.1 (run s0 check.before).tree known (check.found ∙ ap Some (sym time)) name dot
          ∙ ap (stands s.dots (name_key dir name)) entry.2
          ∙ not-true (stands s.dots (name_key dir name) number) tests.1;
    }

-- ---- item 2

pub path_only : (tree : Tree) (callers paths dots : ℕ) → PathOnlyWhereThere (start tree callers paths dots)
path_only tree callers paths dots events event path is =
    let s0 = start tree callers paths dots in
    let (c, asked, probes, place, stood) = path_told (run s0 events) event path is in
    let found = all_tell tree callers paths dots events c (Got asked path) place in
    record {
      caller = c;
      is_probe = probes;
      asked = asked;
      earlier = found.0;
      found = found.1;
      stood = stood;
      folds = (run_ok s0 events (start_ok tree callers paths dots)).places c (Got asked path) place;
    }

-- ---- what is held past a Check

pub checks_held : (tree : Tree) (callers paths dots : ℕ) → ChecksAreHeld (start tree callers paths dots)
checks_held tree callers paths dots events c dir name number time place =
    (all_tell tree callers paths dots events c (Passed dir name number time) place).0
