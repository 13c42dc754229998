-- Each event keeps the invariant.
use Rattle.std.proofs.Common.{◌≡◌, ℕ, ◌<◌, ◌≤◌, ◌⊎◌, Bool, true, false, ◌&&◌, List, [], Option, Some, None, if◌then◌else◌, refl, sym, ap, subst, ◌∙◌, arith, inl, inr, Contains, slice_get}
use Rattle.std.specs.Map.{lookup}
use Rattle.std.specs.List.{list_any}
use Rattle.std.proofs.lemmas.Bool.{false≢true}
use Rattle.std.proofs.Math.Bool.{and-true}
use Rattle.dav_memory.specs.Trees.{Name, Names, FileTime, Tree, same_name, has_name, time_of, next_name}
use Rattle.dav_memory.specs.Entries.{Dots, Listed, is_old_dot, dir_key, same_key}
use Rattle.dav_memory.specs.declared.key.DuEntry.{DuEntry}
use Rattle.dav_cache.specs.Core.{Event, State, Place, Turn, Listing, settled, one_time, is_time, time_told, given, lists_next, turn, step}
use Rattle.dav_cache.specs.declared.event.Event.TheVariants.{Before, ListNext, Change}
use Rattle.dav_cache.specs.declared.place.Place.TheVariants.{Idle, Asked, Peeked, Passed, Failed, Begun, Lists, Ended, Finding, Got, Missed}
use Rattle.dav_cache.specs.Transparency.{SoundAt, SameNames, fits}
use Rattle.dav_memory.proofs.Keys.{is_time_at, path_cases}
use Rattle.dav_memory.proofs.Lists.{purged-take, lookup-take}
use Rattle.dav_cache.proofs.Dots.{AllBelow, Falling, below-lookup, below-take, below-without, falling-take, falling-without, sound-take, sound-dropped, kept-dropped, one-number, seals}
use Rattle.dav_cache.proofs.Order.{HasUpTo, up_to_given, and_false}
use Rattle.dav_cache.proofs.Invariant.{AreNamesOf, PlaceOk, Data, Inv, Keeps, Passing, holds_on, next}
use Rattle.dav_cache.proofs.Turns.{DotsTurn, dots_stay, dir_goes, dots_age, dir_comes, Begins, GoesOn, Came, Made, Turned, misplaced, turned, each_turn}

-- a tree that an event sets is one of these
abbrev pub KnowsTree : List Tree → Event → Type 0
KnowsTree trees (Change tree) = Contains trees tree
KnowsTree trees _ = Unit {0}

-- ---- what a call of the disk told

pub told_time : (refused : Bool) (tree : Tree) (dir : Names) (t : FileTime) → time_told refused tree dir ≡ Some t → time_of tree dir ≡ Some t
told_time true tree dir t h = cc
told_time false tree dir t h = h

one_time_parts : (before after : Option FileTime) (t : FileTime) → one_time before after ≡ Some t → (before ≡ Some t) × (after ≡ Some t)
one_time_parts None after t h = cc
one_time_parts (Some u) after t h =
    (elim (is_time u after) as (λ b. is_time u after ≡ b → (if b then Some u else None) ≡ Some t → (Some u ≡ Some t) × (after ≡ Some t)) [
      | true ↦ λ is e. (e, is_time_at u after is ∙ e)
      | false ↦ λ is e. cc
    ]) refl h

settled_parts : (l : Listing) (after : Option FileTime) (t : FileTime) → settled l after ≡ Some t
    → (l.whole ≡ true) × (l.before ≡ Some t) × (after ≡ Some t)
unfolding settled
settled_parts l after t h =
    (elim (l.whole) as (λ b. (if b then one_time l.before after else None) ≡ Some t → (b ≡ true) × (l.before ≡ Some t) × (after ≡ Some t)) [
      | true ↦ λ e. let parts = one_time_parts l.before after t e in (refl, parts.0, parts.1)
      | false ↦ λ e. cc
    ]) h

-- ---- the entries that a turn leaves

module _ (trees : List Tree) where
  record Leaves (s : State) (dots : Dots) (next : ℕ) : Type 0 where
    more : s.next ≤ next
    falling : Falling dots
    below : AllBelow next dots
    sound : (d : Names) → SoundAt trees dots d
    came : (d : Names) (e : DuEntry) → lookup (same_key (dir_key d)) dots ≡ Some e → (lookup (same_key (dir_key d)) s.dots ≡ Some e) ⊎ (s.next ≤ e.number)

  dots_left : (s : State) → Data trees s
      → ((c : ℕ) (l : Listing) (after : Option FileTime) (time : FileTime) → slice_get s.places c ≡ Some (Ended l after) → settled l after ≡ Some time → AreNamesOf trees l time)
      → (dots : Dots) (next : ℕ) → DotsTurn s dots next → Leaves s dots next
  dots_left s old are dots next dots_stay = record { more = omega arith; falling = old.falling; below = old.below; sound = old.sound; came = λ d e h. inl h }
  dots_left s old are dots next (dir_goes dir) = record {
    more = omega arith;
    falling = falling-without (same_key (dir_key dir)) s.dots old.falling;
    below = below-without s.next (same_key (dir_key dir)) s.dots old.below;
    sound = λ d. sound-dropped trees dir d s.dots (old.sound d) (path_cases dir d);
    came = λ d e h. inl (kept-dropped dir d s.dots e h);
  }
  dots_left s old are dots next (dots_age now) =
      let is = purged-take (is_old_dot now) s.dots in
      record {
        more = omega arith;
        falling = subst Falling (sym is.1) (falling-take is.0 s.dots old.falling);
        below = subst (AllBelow s.next) (sym is.1) (below-take s.next is.0 s.dots old.below);
        sound = λ d. subst (λ w. SoundAt trees w d) (sym is.1) (sound-take trees is.0 s.dots d old.falling (old.sound d));
        came = λ d e h. inl (lookup-take (same_key (dir_key d)) is.0 s.dots e (subst (λ w. lookup (same_key (dir_key d)) w ≡ Some e) is.1 h));
      }
  dots_left s old are dots next (dir_comes c l after time now room at is) =
      let listed : Listed = record { dir = l.dir; time = time; moment = now; number = s.next } in
      let done = seals trees s.dots_size s.dots listed l.names room old.falling old.below old.sound (are c l after time at is) in
      record {
        more = omega arith;
        falling = done.falling;
        below = done.below;
        sound = done.sound;
        came = λ d e h. elim (done.came d e h) [ inl was ↦ inl was | inr new ↦ inr (let n : e.number ≡ s.next = new in omega arith) ];
      }

-- ---- a place that a caller comes to

-- the tree stays, where the event sets none
same_tree : (s t : State) (e : Event) → Made s e t → ((tree : Tree) → e ≡ Change tree → ⊥) → t.tree ≡ s.tree
same_tree s t e made other = elim made.tree [ inl same ↦ same | inr is ↦ absurd (other t.tree is) ]

module _ (trees : List Tree) (same : SameNames trees) (A A' : ℕ → Names → FileTime → Type 0) where
  given_ok : (s s' : State) (c : ℕ) (l : Listing) (o : Option Name) → s'.tree ≡ s.tree → next_name s.tree l.dir l.last ≡ o → l.ended ≡ false
      → slice_get s'.places c ≡ Some (Lists (given l o))
      → Passing A A' s s' → PlaceOk trees A s c (Lists l) → PlaceOk trees A' s' c (Lists (given l o))
  given_ok s s' c l None tree is open_ here pass ok = λ whole t before. elim (ok whole t before) [
    | inl going ↦ inl (ap (λ w. time_of w l.dir) tree ∙ going.0, subst (λ w. HasUpTo (given l None) w) (sym tree) (up_to_given l s.tree None is open_ going.1))
    | inr away ↦ inr (pass.carries c l.dir t away (given l None, here, refl))
  ]
  given_ok s s' c l (Some n) tree is open_ here pass ok = λ whole t before. elim (ok whole t before) [
    | inl going ↦ inl (ap (λ w. time_of w l.dir) tree ∙ going.0, subst (λ w. HasUpTo (given l (Some n)) w) (sym tree) (up_to_given l s.tree (Some n) is open_ going.1))
    | inr away ↦ inr (pass.carries c l.dir t away (given l (Some n), here, refl))
  ]

  lists_next_ok : (s s' : State) (c : ℕ) (l : Listing) (o : Option FileTime) → s'.tree ≡ s.tree → l.ended ≡ false
      → slice_get s'.places c ≡ Some (Lists (lists_next s.tree l o))
      → Passing A A' s s' → PlaceOk trees A s c (Lists l) → PlaceOk trees A' s' c (Lists (lists_next s.tree l o))
  lists_next_ok s s' c l None tree open_ here pass ok = λ whole t before. absurd (false≢true whole)
  lists_next_ok s s' c l (Some u) tree open_ here pass ok = given_ok s s' c l (next_name s.tree l.dir l.last) tree refl open_ here pass ok

  module _ (s : State) (e : Event) (t : State) (made : Made s e t) (inv : Inv trees A s) (pass : Passing A A' s t) (keeps : Keeps s t) (c : ℕ) where
    begins_ok : (l : Listing) → Begins s e c l → PlaceOk trees A' t c (Lists l)
    begins_ok l (refused, by_before, is) =
        let tree = same_tree s t e made (λ w by_change. let no_ : Before c refused ≡ Change w = sym by_before ∙ by_change in cc) in
        let first : Listing = record { dir = l.dir; before = time_told refused s.tree l.dir; last = None; names = []; ended = false; whole = true } in
        let ok : PlaceOk trees A' t c (Lists first) = λ whole time was. inl (
          ap (λ w. time_of w l.dir) tree ∙ told_time refused s.tree l.dir time was,
          λ x dot. and_false (has_name t.tree l.dir x),
        ) in
        subst (λ w. PlaceOk trees A' t c (Lists w)) (sym is) ok

    goes_on_ok : (l : Listing) → slice_get t.places c ≡ Some (Lists l) → GoesOn s e c l → PlaceOk trees A' t c (Lists l)
    goes_on_ok l here (refused, by_next, was, at, open_, is) =
        let tree = same_tree s t e made (λ w by_change. let no_ : ListNext c refused ≡ Change w = sym by_next ∙ by_change in cc) in
        let now : slice_get t.places c ≡ Some (Lists (lists_next s.tree was (time_told refused s.tree was.dir))) = here ∙ ap (λ w. Some (Lists w)) is in
        subst (λ w. PlaceOk trees A' t c (Lists w)) (sym is)
        (lists_next_ok s t c was (time_told refused s.tree was.dir) tree open_ now pass (inv.places c (Lists was) at))

    -- the directory had one time before and after, so that its listing has all names
    ended_ok : (l : Listing) (after : Option FileTime) → Came s e c (Ended l after) → PlaceOk trees A' t c (Ended l after)
    ended_ok l after (refused, by_after, at, ended, is) = λ time found.
        let parts = settled_parts l after time found in
        let now = told_time refused s.tree l.dir time (sym is ∙ parts.2) in
        elim (inv.places c (Lists l) at parts.0 time parts.1) [
          | inl going ↦ λ tree known had x dot.
              let all : list_any (same_name x) l.names ≡ (has_name s.tree l.dir x && true) = rw ended at (going.1 x dot) in
              same tree s.tree known inv.entries.known l.dir time had now x ∙ sym (all ∙ and-true (has_name s.tree l.dir x))
          | inr away ↦ absurd (pass.gone c l.dir time away now)
        ]

    came_ok : (p : Place) → slice_get t.places c ≡ Some p → Came s e c p → PlaceOk trees A' t c p
    came_ok Idle here came = tt
    came_ok (Asked dir name) here came = tt
    came_ok (Peeked dir name number time) here came =
        let (by_peek, from, entry, found, is, at) = came in
        holds_on s t dir number time keeps (record {
          given = subst (λ n. n < s.next) is (below-lookup s.next (same_key (dir_key dir)) s.dots entry inv.entries.below found);
          one = λ d other there number_.
              let one = one-number s.dots dir d entry other inv.entries.falling found there (number_ ∙ sym is) in
              (one.0, one.1 ∙ at);
        })
    came_ok (Passed dir name number time) here came = holds_on s t dir number time keeps (inv.places c (Peeked dir name number time) came.1)
    came_ok (Failed dir) here came = tt
    came_ok (Begun dir) here came = tt
    came_ok (Lists l) here came = elim came [ inl begins ↦ begins_ok l begins | inr on ↦ goes_on_ok l here on ]
    came_ok (Ended l after) here came = ended_ok l after came
    came_ok (Finding path) here came = tt
    came_ok (Got asked path) here came = tt
    came_ok (Missed asked) here came = tt

  -- ---- a turn

  turn_inv : (s : State) (e : Event) (t : Turn) (b : Bool) → Turned s e t b → KnowsTree trees e → Inv trees A s → Passing A A' s t.0 → Inv trees A' t.0
  turn_inv s e t b misplaced known inv pass =
      next trees same A A' s s inv pass inv.entries (record { more = omega arith; came = λ d e h. inl h }) (λ c p h. inl h)
  turn_inv s e t b (turned u tells made) known inv pass =
      let left = dots_left trees s inv.entries (λ c l after time at. inv.places c (Ended l after) at time) u.0.dots u.0.next made.dots in
      let keeps : Keeps s u.0 = record { more = left.more; came = left.came } in
      let known_ : Contains trees u.0.tree = elim made.tree [
        | inl tree ↦ subst (Contains trees) (sym tree) inv.entries.known
        | inr is ↦ subst (KnowsTree trees) is known
      ] in
      next trees same A A' s u.0 inv pass (record { known = known_; falling = left.falling; below = left.below; sound = left.sound }) keeps
      (λ c p h. elim (made.places c p h) [ inl (was, other) ↦ inl was | inr (mine, came) ↦ inr (came_ok s e u.0 made inv pass keeps c p h came) ])

  pub step_inv : (s : State) (event : Event) → KnowsTree trees event → Inv trees A s → Passing A A' s (step s event) → Inv trees A' (step s event)
  step_inv s event known inv pass = turn_inv s event (turn s event) (fits s event) (each_turn s event) known inv pass
