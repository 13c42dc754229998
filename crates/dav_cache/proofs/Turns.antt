-- What an event makes of the state, and what it tells. The events are walked here, once: what each of them keeps is then shown by the few kinds of changes.
use Rattle.std.proofs.Common.{◌≡◌, ℕ, ◌+◌, ◌-◌, ◌^◌, ◌==◌, Bool, true, false, not, ◌&&◌, [], Option, Some, None, if◌then◌else◌, nat_lt, refl, sym, subst, ◌∙◌, inl, inr, ◌⊎◌, slice_get, slice_set}
use Rattle.std.specs.Option.{option_map_or}
use Rattle.std.specs.Map.{lookup}
use Rattle.std.proofs.lemmas.Bool.{false≢true, ne_eqb, eq-eqb, cases_eq}
use Rattle.dav_memory.specs.Trees.{Name, Names, FileTime, Tree, same_path, has_row, time_of, fold_path}
use Rattle.dav_memory.specs.Entries.{Dots, Paths, dir_key, same_key, concludes, without, inserted, promoted, purged, sealed, is_old_path, is_old_dot}
use Rattle.dav_memory.specs.declared.key.DuEntry.{DuEntry}
use Rattle.dav_memory.specs.declared.entry.PathEntry.{PathEntry}
use Rattle.dav_cache.specs.Core.{Event, Moment, State, Place, Told, Turn, Listing, goes, settled, is_time, time_told, ask, peeked, peek, check, conclude, drop_dir, begin, before, lists_next, list_next, after, new_dots, with_dots, seal, find, got, get, probe, drop, insert, purge, turn}
use Rattle.dav_cache.specs.declared.event.Event.TheVariants.{Ask, Peek, Check, Conclude, DropDir, Begin, Before, ListNext, After, Seal, Find, Get, Probe, Drop, Insert, Purge, Change}
use Rattle.dav_cache.specs.declared.place.Place.TheVariants.{Idle, Asked, Peeked, Passed, Failed, Begun, Lists, Ended, Finding, Got, Missed}
use Rattle.dav_cache.specs.declared.event.Told.TheVariants.{Nothing, Absent, Path, Misplaced}
use Rattle.dav_cache.specs.Transparency.{is_caller, is_misplaced, is_idle, is_asked, is_peeked, is_passed, is_failed, is_begun, lists_on, has_listed, is_ended, is_finding, is_got, is_missed, fits}
use Rattle.dav_memory.proofs.Keys.{is_time_at}
use Rattle.dav_cache.proofs.Places.{get-set_own, get-set_other}

-- ---- what becomes of the entries

pub data PathsTurn (s : State) : Paths → Type 0 where
  paths_stay : PathsTurn s s.paths
  path_rises : (key : Names) (e : PathEntry) → lookup (same_path key) s.paths ≡ Some e → PathsTurn s (promoted key (Some e) s.paths)
  path_goes : (key : Names) → PathsTurn s (without (same_path key) s.paths)
  path_comes : (path : Names) (now : Moment) → PathsTurn s (inserted s.paths_size path now s.paths)
  paths_age : (now : Moment) → PathsTurn s (purged (is_old_path now) s.paths)

-- and of the number of the next listing
pub data DotsTurn (s : State) : Dots → ℕ → Type 0 where
  dots_stay : DotsTurn s s.dots s.next
  dir_goes : (dir : Names) → DotsTurn s (without (same_key (dir_key dir)) s.dots) s.next
  dots_age : (now : Moment) → DotsTurn s (purged (is_old_dot now) s.dots) s.next
  dir_comes : (c : ℕ) (l : Listing) (after : Option FileTime) (time : FileTime) (now : Moment) (room : ℕ)
      → slice_get s.places c ≡ Some (Ended l after) → settled l after ≡ Some time
      → DotsTurn s (sealed s.dots_size (record { dir = l.dir; time = time; moment = now; number = s.next }) l.names room s.dots) (s.next + 1)

-- ---- what becomes of a caller's place

-- a listing begins, with what the disk told of the directory's time
abbrev pub Begins : State → Event → ℕ → Listing → Type 0
Begins s e c l = (refused : Bool) × (e ≡ Before c refused) × (l ≡ record {
  dir = l.dir;
  before = time_told refused s.tree l.dir;
  last = None;
  names = [];
  ended = false;
  whole = true;
})

-- or is one step further
abbrev pub GoesOn : State → Event → ℕ → Listing → Type 0
GoesOn s e c l =
    (refused : Bool) × (e ≡ ListNext c refused) × (was : Listing) × (slice_get s.places c ≡ Some (Lists was)) × (was.ended ≡ false)
    × (l ≡ lists_next s.tree was (time_told refused s.tree was.dir))

-- by what event a caller comes to a place, and from where
abbrev pub Came : State → Event → ℕ → Place → Type 0
Came s e c (Asked dir name) = e ≡ Ask c dir name
Came s e c (Peeked dir name number time) =
    (e ≡ Peek c) × (slice_get s.places c ≡ Some (Asked dir name)) × (entry : DuEntry) × (lookup (same_key (dir_key dir)) s.dots ≡ Some entry)
    × (entry.number ≡ number) × (entry.time ≡ time)
Came s e c (Passed dir name number time) =
    (e ≡ Check c false) × (slice_get s.places c ≡ Some (Peeked dir name number time)) × (time_of s.tree dir ≡ Some time)
Came s e c (Lists l) = Begins s e c l ⊎ GoesOn s e c l
Came s e c (Ended l after) =
    (refused : Bool) × (e ≡ After c refused) × (slice_get s.places c ≡ Some (Lists l)) × (l.ended ≡ true)
    × (after ≡ time_told refused s.tree l.dir)
Came s e c (Finding path) = e ≡ Find c path
Came s e c (Got asked path) =
    (e ≡ Get c) × (slice_get s.places c ≡ Some (Finding asked)) × (entry : PathEntry) × (lookup (same_path (fold_path asked)) s.paths ≡ Some entry)
    × (entry.path ≡ path)
Came s e c _ = Unit {0}

-- ---- a turn

-- what an event that fits makes of the state
pub record Made (s : State) (e : Event) (t : State) : Type 0 where
  pub tree : (t.tree ≡ s.tree) ⊎ (e ≡ Change t.tree)
  pub paths : PathsTurn s t.paths
  pub dots : DotsTurn s t.dots t.next
  pub places : (c : ℕ) (p : Place) → slice_get t.places c ≡ Some p → ((slice_get s.places c ≡ Some p) × (is_caller c e ≡ false)) ⊎ ((is_caller c e ≡ true) × Came s e c p)

abbrev pub TellsAbsent : State → Event → Type 0
TellsAbsent s e = (c : ℕ) × (dir : Names) × (name : Name) × (number : ℕ) × (t : FileTime) × (e ≡ Conclude c) × (slice_get s.places c ≡ Some (Passed dir name number t)) × (concludes s.dots dir name number ≡ true)

abbrev pub TellsPath : State → Event → Names → Type 0
TellsPath s e path = (c : ℕ) × (asked : Names) × (e ≡ Probe c false) × (slice_get s.places c ≡ Some (Got asked path)) × (has_row s.tree path ≡ true)

-- and what it may tell
abbrev pub Tells : State → Event → Told → Type 0
Tells s e Nothing = Unit {0}
Tells s e (Absent true) = TellsAbsent s e
Tells s e (Absent false) = Unit {0}
Tells s e (Path (Some path)) = TellsPath s e path
Tells s e (Path None) = Unit {0}
Tells s e Misplaced = ⊥

pub tells_placed : (s : State) (e : Event) (told : Told) → Tells s e told → is_misplaced told ≡ false
tells_placed s e Nothing tells = refl
tells_placed s e (Absent absent) tells = refl
tells_placed s e (Path path) tells = refl
tells_placed s e Misplaced tells = absurd tells

-- a turn of an event that fits, or doesn't
pub data Turned (s : State) (e : Event) : Turn → Bool → Type 0 where
  misplaced : Turned s e (s, Misplaced) false
  turned : (t : Turn) → Tells s e t.1 → Made s e t.0 → Turned s e t true

-- ---- the walk

-- a caller goes to a place, after these changes of the entries
goes_made : (s s1 : State) (e : Event) (c : ℕ) (p : Place) (told : Told) → s1.tree ≡ s.tree → s1.places ≡ s.places
    → ((i : ℕ) → is_caller i e ≡ (c == i)) → PathsTurn s s1.paths → DotsTurn s s1.dots s1.next → Came s e c p → Made s e (goes s1 c p told).0
goes_made s s1 e c p told tree same who paths dots came = record {
  tree = inl tree;
  paths = paths;
  dots = dots;
  places = λ i q h. elim (cases_eq i c) [
    | inl is ↦
        let own : slice_get (slice_set s1.places c p) c ≡ Some q = subst (λ w. slice_get (slice_set s1.places c p) w ≡ Some q) is h in
        inr (who i ∙ eq-eqb c i (sym is), subst (λ w. Came s e w q) (sym is) (subst (Came s e c) (get-set_own s1.places c p q own) came))
    | inr ne ↦ inl (subst (λ w. slice_get w i ≡ Some q) same (get-set_other s1.places c i p q ne h), who i ∙ ne_eqb c i (λ h. ne (sym h)))
  ];
}

module _ (s : State) (c : ℕ) where
  -- the entries stay
  moved : (e : Event) (p : Place) (told : Told) → ((i : ℕ) → is_caller i e ≡ (c == i)) → Tells s e told → Came s e c p
      → Turned s e (goes s c p told) true
  moved e p told who tells came = turned (goes s c p told) tells (goes_made s s e c p told refl refl who paths_stay dots_stay came)

  ask_turned : (dir : Names) (name : Name) (o : Option Place) → Turned s (Ask c dir name) (ask s c dir name o) (option_map_or is_idle o false)
  ask_turned dir name (Some Idle) = moved (Ask c dir name) (Asked dir name) Nothing (λ i. refl) tt refl
  ask_turned dir name _ = misplaced

  peeked_turned : (dir : Names) (name : Name) (o : Option DuEntry) → slice_get s.places c ≡ Some (Asked dir name)
      → lookup (same_key (dir_key dir)) s.dots ≡ o → Turned s (Peek c) (peeked s c dir name o) true
  peeked_turned dir name None at found = moved (Peek c) Idle (Absent false) (λ i. refl) tt tt
  peeked_turned dir name (Some e) at found = moved (Peek c) (Peeked dir name e.number e.time) Nothing (λ i. refl) tt (refl, at, e, found, refl, refl)

  peek_turned : (o : Option Place) → slice_get s.places c ≡ o → Turned s (Peek c) (peek s c o) (option_map_or is_asked o false)
  peek_turned (Some (Asked dir name)) at = peeked_turned dir name (lookup (same_key (dir_key dir)) s.dots) at refl
  peek_turned _ at = misplaced

  -- a Check that was refused finds no time
  passes : (refused : Bool) (dir : Names) (name : Name) (number : ℕ) (t : FileTime) → slice_get s.places c ≡ Some (Peeked dir name number t)
      → is_time t (time_told refused s.tree dir) ≡ true → Came s (Check c refused) c (Passed dir name number t)
  passes true dir name number t at is = absurd (false≢true is)
  passes false dir name number t at is = (refl, at, is_time_at t (time_of s.tree dir) is)

  check_turned : (refused : Bool) (o : Option Place) → slice_get s.places c ≡ o → Turned s (Check c refused) (check s c refused o) (option_map_or is_peeked o false)
  check_turned refused (Some (Peeked dir name number t)) at =
      (elim (is_time t (time_told refused s.tree dir)) as (λ b. is_time t (time_told refused s.tree dir) ≡ b → Turned s (Check c refused) (goes s c (if b then Passed dir name number t else Failed dir) Nothing) true) [
        | true ↦ λ is. moved (Check c refused) (Passed dir name number t) Nothing (λ i. refl) tt (passes refused dir name number t at is)
        | false ↦ λ is. moved (Check c refused) (Failed dir) Nothing (λ i. refl) tt tt
      ]) refl
  check_turned refused _ at = misplaced

  denies : (dir : Names) (name : Name) (number : ℕ) (t : FileTime) (b : Bool) → slice_get s.places c ≡ Some (Passed dir name number t)
      → concludes s.dots dir name number ≡ b → Tells s (Conclude c) (Absent b)
  denies dir name number t true at is = (c, dir, name, number, t, refl, at, is)
  denies dir name number t false at is = tt

  conclude_turned : (o : Option Place) → slice_get s.places c ≡ o → Turned s (Conclude c) (conclude s c o) (option_map_or is_passed o false)
  conclude_turned (Some (Passed dir name number t)) at =
      let absent = concludes s.dots dir name number in moved (Conclude c) Idle (Absent absent) (λ i. refl) (denies dir name number t absent at refl) tt
  conclude_turned _ at = misplaced

  drop_dir_turned : (o : Option Place) → Turned s (DropDir c) (drop_dir s c o) (option_map_or is_failed o false)
  drop_dir_turned (Some (Failed dir)) =
      let left : State = record s { dots = without (same_key (dir_key dir)) s.dots } in
      turned (goes left c Idle (Absent false)) tt (goes_made s left (DropDir c) c Idle (Absent false) refl refl (λ i. refl) paths_stay (dir_goes dir) tt)
  drop_dir_turned _ = misplaced

  begin_turned : (dir : Names) (o : Option Place) → Turned s (Begin c dir) (begin s c dir o) (option_map_or is_idle o false)
  begin_turned dir (Some Idle) = moved (Begin c dir) (Begun dir) Nothing (λ i. refl) tt tt
  begin_turned dir _ = misplaced

  before_turned : (refused : Bool) (o : Option Place) → Turned s (Before c refused) (before s c refused o) (option_map_or is_begun o false)
  before_turned refused (Some (Begun dir)) = moved (Before c refused) (Lists _) Nothing (λ i. refl) tt (inl (refused, refl, refl))
  before_turned refused _ = misplaced

  list_next_turned : (refused : Bool) (o : Option Place) → slice_get s.places c ≡ o
      → Turned s (ListNext c refused) (list_next s c refused o) (option_map_or lists_on o false)
  list_next_turned refused (Some (Lists l)) at =
      let p : Place = Lists (lists_next s.tree l (time_told refused s.tree l.dir)) in
      (elim (l.ended) as (λ b. l.ended ≡ b → Turned s (ListNext c refused) (if b then (s, Misplaced) else goes s c p Nothing) (not b)) [
        | true ↦ λ is. misplaced
        | false ↦ λ is. moved (ListNext c refused) p Nothing (λ i. refl) tt (inr (refused, refl, l, at, is, refl))
      ]) refl
  list_next_turned refused _ at = misplaced

  after_turned : (refused : Bool) (o : Option Place) → slice_get s.places c ≡ o
      → Turned s (After c refused) (after s c refused o) (option_map_or has_listed o false)
  after_turned refused (Some (Lists l)) at =
      let p : Place = Ended l (time_told refused s.tree l.dir) in
      (elim (l.ended) as (λ b. l.ended ≡ b → Turned s (After c refused) (if b then goes s c p Nothing else (s, Misplaced)) b) [
        | true ↦ λ is. moved (After c refused) p Nothing (λ i. refl) tt (refused, refl, at, is, refl)
        | false ↦ λ is. misplaced
      ]) refl
  after_turned refused _ at = misplaced

  with_dots_made : (now : Moment) (room : ℕ) (l : Listing) (after : Option FileTime) → slice_get s.places c ≡ Some (Ended l after)
      → (o : Option FileTime) → settled l after ≡ o → Made s (Seal c now room) (goes (with_dots s (new_dots s l now room o)) c Idle Nothing).0
  unfolding new_dots
  with_dots_made now room l after at None is = goes_made s s (Seal c now room) c Idle Nothing refl refl (λ i. refl) paths_stay dots_stay tt
  with_dots_made now room l after at (Some time) is =
      let dots : Dots = sealed s.dots_size (record { dir = l.dir; time = time; moment = now; number = s.next }) l.names room s.dots in
      (elim (nat_lt s.next (2 ^ 64 - 1)) as (λ b. Made s (Seal c now room) (goes (with_dots s (if b then Some dots else None)) c Idle Nothing).0) [
        | true ↦ goes_made s (with_dots s (Some dots)) (Seal c now room) c Idle Nothing refl refl (λ i. refl) paths_stay (dir_comes c l after time now room at is) tt
        | false ↦ goes_made s s (Seal c now room) c Idle Nothing refl refl (λ i. refl) paths_stay dots_stay tt
      ])

  seal_turned : (now : Moment) (room : ℕ) (o : Option Place) → slice_get s.places c ≡ o
      → Turned s (Seal c now room) (seal s c now room o) (option_map_or is_ended o false)
  seal_turned now room (Some (Ended l after)) at =
      turned (goes (with_dots s (new_dots s l now room (settled l after))) c Idle Nothing) tt (with_dots_made now room l after at (settled l after) refl)
  seal_turned now room _ at = misplaced

  find_turned : (path : Names) (o : Option Place) → Turned s (Find c path) (find s c path o) (option_map_or is_idle o false)
  find_turned path (Some Idle) = moved (Find c path) (Finding path) Nothing (λ i. refl) tt refl
  find_turned path _ = misplaced

  got_turned : (asked : Names) (o : Option PathEntry) → slice_get s.places c ≡ Some (Finding asked)
      → lookup (same_path (fold_path asked)) s.paths ≡ o → Turned s (Get c) (got s c asked o) true
  got_turned asked None at found = moved (Get c) Idle (Path None) (λ i. refl) tt tt
  got_turned asked (Some e) at found =
      let left : State = record s { paths = promoted (fold_path asked) (Some e) s.paths } in
      turned (goes left c (Got asked e.path) Nothing) tt (goes_made s left (Get c) c (Got asked e.path) Nothing refl refl (λ i. refl) (path_rises (fold_path asked) e found) dots_stay (refl, at, e, found, refl))

  get_turned : (o : Option Place) → slice_get s.places c ≡ o → Turned s (Get c) (get s c o) (option_map_or is_finding o false)
  get_turned (Some (Finding asked)) at = got_turned asked (lookup (same_path (fold_path asked)) s.paths) at refl
  get_turned _ at = misplaced

  finds : (refused : Bool) (asked path : Names) → slice_get s.places c ≡ Some (Got asked path) → (not refused && has_row s.tree path) ≡ true
      → TellsPath s (Probe c refused) path
  finds true asked path at is = absurd (false≢true is)
  finds false asked path at is = (c, asked, refl, at, is)

  probe_turned : (refused : Bool) (o : Option Place) → slice_get s.places c ≡ o → Turned s (Probe c refused) (probe s c refused o) (option_map_or is_got o false)
  probe_turned refused (Some (Got asked path)) at =
      (elim (not refused && has_row s.tree path) as (λ b. (not refused && has_row s.tree path) ≡ b → Turned s (Probe c refused) (if b then goes s c Idle (Path (Some path)) else goes s c (Missed asked) Nothing) true) [
        | true ↦ λ is. moved (Probe c refused) Idle (Path (Some path)) (λ i. refl) (finds refused asked path at is) tt
        | false ↦ λ is. moved (Probe c refused) (Missed asked) Nothing (λ i. refl) tt tt
      ]) refl
  probe_turned refused _ at = misplaced

  drop_turned : (o : Option Place) → Turned s (Drop c) (drop s c o) (option_map_or is_missed o false)
  drop_turned (Some (Missed asked)) =
      let left : State = record s { paths = without (same_path (fold_path asked)) s.paths } in
      turned (goes left c Idle (Path None)) tt (goes_made s left (Drop c) c Idle (Path None) refl refl (λ i. refl) (path_goes (fold_path asked)) dots_stay tt)
  drop_turned _ = misplaced

  insert_turned : (path : Names) (now : Moment) (o : Option Place) → Turned s (Insert c path now) (insert s c path now o) (option_map_or is_idle o false)
  insert_turned path now (Some Idle) =
      let left : State = record s { paths = inserted s.paths_size path now s.paths } in
      turned (goes left c Idle Nothing) tt (goes_made s left (Insert c path now) c Idle Nothing refl refl (λ i. refl) (path_comes path now) dots_stay tt)
  insert_turned path now _ = misplaced

purge_turned : (s : State) (now : Moment) (dots : Bool) → Turned s (Purge now dots) (purge s now dots) true
purge_turned s now true = turned _ tt (record { tree = inl refl; paths = paths_stay; dots = dots_age now; places = λ c p h. inl (h, refl) })
purge_turned s now false = turned _ tt (record { tree = inl refl; paths = paths_age now; dots = dots_stay; places = λ c p h. inl (h, refl) })

change_turned : (s : State) (tree : Tree) → Turned s (Change tree) (record s { tree = tree }, Nothing) true
change_turned s tree = turned _ tt (record { tree = inr refl; paths = paths_stay; dots = dots_stay; places = λ c p h. inl (h, refl) })

pub each_turn : (s : State) (e : Event) → Turned s e (turn s e) (fits s e)
each_turn s (Ask c dir name) = ask_turned s c dir name (slice_get s.places c)
each_turn s (Peek c) = peek_turned s c (slice_get s.places c) refl
each_turn s (Check c refused) = check_turned s c refused (slice_get s.places c) refl
each_turn s (Conclude c) = conclude_turned s c (slice_get s.places c) refl
each_turn s (DropDir c) = drop_dir_turned s c (slice_get s.places c)
each_turn s (Begin c dir) = begin_turned s c dir (slice_get s.places c)
each_turn s (Before c refused) = before_turned s c refused (slice_get s.places c)
each_turn s (ListNext c refused) = list_next_turned s c refused (slice_get s.places c) refl
each_turn s (After c refused) = after_turned s c refused (slice_get s.places c) refl
each_turn s (Seal c now room) = seal_turned s c now room (slice_get s.places c) refl
each_turn s (Find c path) = find_turned s c path (slice_get s.places c)
each_turn s (Get c) = get_turned s c (slice_get s.places c) refl
each_turn s (Probe c refused) = probe_turned s c refused (slice_get s.places c) refl
each_turn s (Drop c) = drop_turned s c (slice_get s.places c)
each_turn s (Insert c path now) = insert_turned s c path now (slice_get s.places c)
each_turn s (Purge now dots) = purge_turned s now dots
each_turn s (Change tree) = change_turned s tree
