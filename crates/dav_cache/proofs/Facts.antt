-- The facts on the dot-underscore entries, in every run. No premise is needed.
use Rattle.std.proofs.Common.{Contains, ◌≡◌, ℕ, ◌<◌, ◌≤◌, ◌||◌, Bool, true, false, ◌&&◌, List, [], ◌∷◌, Option, Some, None, if◌then◌else◌, refl, sym, ap, subst, ◌∙◌, arith, ◌++◌, inl, inr, slice_get}
use Rattle.std.specs.Prelude.{pos}
use Rattle.std.specs.List.{list_any, filter}
use Rattle.std.proofs.lemmas.Bool.{cases_Bool, false≢true, true≢false, or_cases}
use Rattle.dav_memory.specs.Trees.{Name, Names, FileTime, Tree, same_name, is_dot, is_after, is_less, next_name, names_in}
use Rattle.dav_memory.specs.Entries.{Dots, Listed, IsCounted, AreCounted, is_old_dot, dir_key, same_key}
use Rattle.dav_cache.specs.Core.{Event, State, Place, Turn, Listing, time_told, given, lists_next, turn, step, run, start}
use Rattle.dav_cache.specs.declared.place.Place.TheVariants.{Idle, Peeked, Passed, Lists, Ended}
use Rattle.dav_memory.proofs.Lists.{purged-take}
use Rattle.dav_cache.proofs.Places.{get-replicate}
use Rattle.dav_cache.specs.Transparency.{AllBelow, Falling, Numbers, AllNumbered, HoldsNumber, FactsAreKept, fits}
use Rattle.dav_memory.proofs.Keys.{name_decides}
use Rattle.dav_cache.proofs.Order.{after_trans, least_is, any-filter}
use Rattle.dav_memory.proofs.Order.{less_itself, any-push}
use Rattle.dav_cache.proofs.Dots.{below-take, below-without, below-lookup, falling-take, falling-without, seals}
use Rattle.dav_cache.proofs.Numbers.{numbered-lookup, numbered-take, numbered-without, numbered-sealed, numbered-like, with_number, with_number-own, with_number-other}
use Rattle.dav_cache.proofs.Counts.{AreNew, counted-take, counted-dropped, counted-sealed}
use Rattle.dav_cache.proofs.Paths.{run_ok, start_ok}
use Rattle.dav_cache.proofs.Turns.{DotsTurn, dots_stay, dir_goes, dots_age, dir_comes, Came, Turned, misplaced, turned, each_turn}

-- ---- the names of a listing

-- no name was given twice, since none comes after the last one
abbrev pub GivenOnce : Listing → Type 0
GivenOnce l = AreNew (λ x. false) l.names × ((x : Name) → list_any (same_name x) l.names ≡ true → is_after l.last x ≡ false)

new-push : (P : Name → Bool) (ns : List Name) (n : Name) → AreNew P ns → P n ≡ false → list_any (same_name n) ns ≡ false → AreNew P (ns ++ n ∷ [])
new-push P [] n new fresh other = (fresh, tt)
new-push P (m ∷ ns) n new fresh other =
    let parts = neither (same_name n m) (list_any (same_name n) ns) other in
    (new.0, new-push (λ y. same_name y m || P y) ns n new.1 (ap (λ b. b || P n) parts.0 ∙ fresh) parts.1)
  where
    neither : (a b : Bool) → (a || b) ≡ false → (a ≡ false) × (b ≡ false)
    neither true b h = absurd (true≢false h)
    neither false b h = (refl, h)

given_once : (l : Listing) (tree : Tree) (o : Option Name) → next_name tree l.dir l.last ≡ o → GivenOnce l → GivenOnce (given l o)
given_once l tree None h once = once
given_once l tree (Some n) h once =
    let found = least_is (filter (is_after l.last) (names_in tree l.dir)) n h in
    let after_ : is_after l.last n ≡ true = and_first (is_after l.last n) (list_any (same_name n) (names_in tree l.dir)) (sym (any-filter (is_after l.last) n (names_in tree l.dir)) ∙ found.0) in
    let other : list_any (same_name n) l.names ≡ false = elim (cases_Bool (list_any (same_name n) l.names)) [ inl is ↦ absurd (true≢false (sym after_ ∙ once.1 n is)) | inr is ↦ is ] in
    let old = λ (x : Name) (is : list_any (same_name x) l.names ≡ true).
    not_less (is_less n x) (λ less. true≢false (sym (after_trans l.last n x after_ less) ∙ once.1 x is)) in
    (elim (is_dot n) as (λ b. GivenOnce (record { dir = l.dir; before = l.before; last = Some n; names = if b then l.names ++ n ∷ [] else l.names; ended = false; whole = l.whole })) [
      | true ↦ (
        new-push (λ x. false) l.names n once.0 refl other,
        λ x is. elim (or_cases (same_name x n) (list_any (same_name x) l.names) (sym (any-push x n l.names) ∙ is)) [
          | inl same ↦ subst (λ w. is_less n w ≡ false) (sym ((name_decides x n).0 same)) (less_itself n)
          | inr more ↦ old x more
        ],
      )
      | false ↦ (once.0, λ x is. old x is)
    ])
  where
    and_first : (a b : Bool) → (a && b) ≡ true → a ≡ true
    and_first true b h = refl
    and_first false b h = h

    not_less : (b : Bool) → (b ≡ true → ⊥) → b ≡ false
    not_less true f = absurd (f refl)
    not_less false f = refl

lists_next_once : (tree : Tree) (l : Listing) (o : Option FileTime) → GivenOnce l → GivenOnce (lists_next tree l o)
lists_next_once tree l None once = once
lists_next_once tree l (Some t) once = given_once l tree (next_name tree l.dir l.last) refl once

-- no tree is among none
pub nothing_known : (tree : Tree) → Contains [] tree → ⊥
nothing_known tree known = let l : known.0 < 0 = known.1 in omega arith

-- ---- the invariant of the dot-underscore entries

abbrev pub PlaceFact : Numbers → ℕ → Place → Type 0
PlaceFact table next (Peeked dir name number t) = (number < next) × (table number ≡ (dir, t))
PlaceFact table next (Passed dir name number t) = (number < next) × (table number ≡ (dir, t))
PlaceFact table next (Lists l) = GivenOnce l
PlaceFact table next (Ended l after) = AreNew (λ x. false) l.names
PlaceFact table next _ = Unit {0}

-- a table has what another one has for the numbers below n
abbrev pub IsLike : ℕ → Numbers → Numbers → Type 0
IsLike n table table' = (k : ℕ) → k < n → table' k ≡ table k

number-more : (table table' : Numbers) (n m : ℕ) (dir : Names) (number : ℕ) (t : FileTime) → IsLike n table table' → n ≤ m
    → (number < n) × (table number ≡ (dir, t)) → (number < m) × (table' number ≡ (dir, t))
number-more table table' n m dir number t like le f = let l : number < n = f.0 in (omega arith, like number f.0 ∙ f.1)

fact-more : (table table' : Numbers) (n m : ℕ) (p : Place) → IsLike n table table' → n ≤ m → PlaceFact table n p → PlaceFact table' m p
fact-more table table' n m (Peeked dir name number t) like le f = number-more table table' n m dir number t like le f
fact-more table table' n m (Passed dir name number t) like le f = number-more table table' n m dir number t like le f
fact-more table table' n m (Lists l) like le f = f
fact-more table table' n m (Ended l after) like le f = f
fact-more table table' n m _ like le f = tt

pub record FactsOk (s : State) : Type 0 where
  pub dots : AreCounted s.next s.dots
  pub table : Numbers
  pub numbered : AllNumbered table s.dots
  pub places : (c : ℕ) (p : Place) → slice_get s.places c ≡ Some p → PlaceFact table s.next p

-- the entries that a turn leaves, and a table of their numbers, which has what the table before it has
record Leaves (s : State) (known : Numbers) (dots : Dots) (next : ℕ) : Type 0 where
  more : s.next ≤ next
  counted : AreCounted next dots
  table : Numbers
  like : IsLike s.next known table
  numbered : AllNumbered table dots

dots_left : (s : State) (old : FactsOk s) (dots : Dots) (next : ℕ) → DotsTurn s dots next → Leaves s old.table dots next
dots_left s old dots next dots_stay = record { more = omega arith; counted = old.dots; table = old.table; like = λ k less. refl; numbered = old.numbered }
dots_left s old dots next (dir_goes dir) = record {
  more = omega arith;
  counted = record {
    below = below-without s.next (same_key (dir_key dir)) s.dots old.dots.below;
    falling = falling-without (same_key (dir_key dir)) s.dots old.dots.falling;
    counted = λ d. counted-dropped dir d s.dots (old.dots.counted d);
  };
  table = old.table;
  like = λ k less. refl;
  numbered = numbered-without old.table (same_key (dir_key dir)) s.dots old.numbered;
}
dots_left s old dots next (dots_age now) =
    let is = purged-take (is_old_dot now) s.dots in
    record {
      more = omega arith;
      counted = record {
        below = subst (AllBelow s.next) (sym is.1) (below-take s.next is.0 s.dots old.dots.below);
        falling = subst Falling (sym is.1) (falling-take is.0 s.dots old.dots.falling);
        counted = λ d. subst (λ w. IsCounted w d) (sym is.1) (counted-take is.0 s.dots d old.dots.falling (old.dots.counted d));
      };
      table = old.table;
      like = λ k less. refl;
      numbered = subst (AllNumbered old.table) (sym is.1) (numbered-take old.table is.0 s.dots old.numbered);
    }
dots_left s old dots next (dir_comes c l after time now room at is) =
    let listed : Listed = record { dir = l.dir; time = time; moment = now; number = s.next } in
    let table : Numbers = with_number old.table s.next (l.dir, time) in
    let new : AreNew (λ x. false) l.names = old.places c (Ended l after) at in
    let done = seals [] s.dots_size s.dots listed l.names room old.dots.falling old.dots.below (λ d e h tree known. absurd (nothing_known tree known)) (λ tree known. absurd (nothing_known tree known)) in
    record {
      more = omega arith;
      counted = record {
        below = done.below;
        falling = done.falling;
        counted = counted-sealed s.dots_size listed l.names room s.dots old.dots.falling old.dots.below old.dots.counted new;
      };
      table = table;
      like = λ k less. with_number-other old.table s.next (l.dir, time) k less;
      numbered = numbered-sealed table s.dots_size listed l.names room s.dots (numbered-like old.table s.next (l.dir, time) s.dots old.dots.below old.numbered) (with_number-own old.table s.next (l.dir, time));
    }

-- a place that a caller comes to
came_fact : (s : State) (e : Event) (c : ℕ) (p : Place) → (old : FactsOk s) → Came s e c p → PlaceFact old.table s.next p
came_fact s e c (Peeked dir name number t) old came =
    let (by_peek, from, entry, found, same, time) = came in (
      subst (λ n. n < s.next) same (below-lookup s.next (same_key (dir_key dir)) s.dots entry old.dots.below found),
      ap old.table (sym same) ∙ numbered-lookup old.table (dir_key dir) s.dots entry old.numbered found ∙ ap (λ w. (dir, w)) time,
    )
came_fact s e c (Passed dir name number t) old came = old.places c (Peeked dir name number t) came.1
came_fact s e c (Lists l) old came = elim came [
  | inl (refused, by_before, is) ↦ subst GivenOnce (sym is) (tt, λ x is. absurd (false≢true is))
  | inr (refused, by_next, was, at, open_, is) ↦ subst GivenOnce (sym is) (lists_next_once s.tree was (time_told refused s.tree was.dir) (old.places c (Lists was) at))
]
came_fact s e c (Ended l after) old came = let (refused, by_after, at, ended, is) = came in (old.places c (Lists l) at).0
came_fact s e c _ old came = tt

turn_facts : (s : State) (e : Event) (t : Turn) (b : Bool) → Turned s e t b → FactsOk s → FactsOk t.0
turn_facts s e t b misplaced old = old
turn_facts s e t b (turned u tells made) old =
    let left = dots_left s old u.0.dots u.0.next made.dots in
    record {
      dots = left.counted;
      table = left.table;
      numbered = left.numbered;
      places = λ c p h. fact-more old.table left.table s.next u.0.next p left.like left.more (elim (made.places c p h) [ inl (was, other) ↦ old.places c p was | inr (mine, came) ↦ came_fact s e c p old came ]);
    }

pub step_facts : (s : State) (e : Event) → FactsOk s → FactsOk (step s e)
step_facts s e old = turn_facts s e (turn s e) (fits s e) (each_turn s e) old

pub run_facts : (s : State) (events : List Event) → FactsOk s → FactsOk (run s events)
run_facts s [] old = old
run_facts s (e ∷ events) old = run_facts (step s e) events (step_facts s e old)

-- before any listing a table has anything
abbrev no_numbers : Numbers
no_numbers number = ([], record { secs = pos 0; nanos = 0 })

pub start_facts : (tree : Tree) (callers paths dots : ℕ) → FactsOk (start tree callers paths dots)
start_facts tree callers paths dots = record {
  dots = record { below = tt; falling = tt; counted = λ d e h. cc };
  table = no_numbers;
  numbered = tt;
  places = λ c p h. subst (PlaceFact no_numbers 1) (get-replicate callers c Idle p h) tt;
}

holds_number : (table : Numbers) (n : ℕ) (p : Place) → PlaceFact table n p → HoldsNumber table n p
holds_number table n (Peeked dir name number t) f = f
holds_number table n (Passed dir name number t) f = f
holds_number table n _ f = tt

pub facts_are_kept : (tree : Tree) (callers paths dots : ℕ) → FactsAreKept (start tree callers paths dots)
facts_are_kept tree callers paths dots events =
    let s0 = start tree callers paths dots in
    let facts = run_facts s0 events (start_facts tree callers paths dots) in
    let s = run s0 events in
    record {
      folded = (run_ok s0 events (start_ok tree callers paths dots)).folded;
      dots = facts.dots;
      numbers = record {
        table = facts.table;
        entries = facts.numbered;
        held = λ c p h. holds_number facts.table s.next p (facts.places c p h);
      };
    }
