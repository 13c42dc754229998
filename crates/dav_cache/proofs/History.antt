-- A caller's place tells its own last events.
use Rattle.std.proofs.Common.{◌≡◌, ℕ, Bool, true, false, not, ◌&&◌, List, [], ◌∷◌, ◌++◌, Some, if◌then◌else◌, refl, sym, ap, subst, ◌∙◌, inl, inr, slice_get, append_assoc}
use Rattle.std.proofs.lemmas.List.{append-nil}
use Rattle.dav_memory.specs.Trees.{Name, Names, FileTime, Tree}
use Rattle.dav_cache.specs.Core.{Event, State, Place, Told, Turn, turn, step, told, run, start}
use Rattle.dav_cache.specs.declared.event.Event.TheVariants.{Ask, Peek, Check, Find, Get}
use Rattle.dav_cache.specs.declared.place.Place.TheVariants.{Idle, Asked, Peeked, Passed, Failed, Begun, Lists, Ended, Finding, Got, Missed}
use Rattle.dav_cache.specs.declared.event.Told.TheVariants.{Misplaced}
use Rattle.dav_cache.specs.Transparency.{is_caller, is_misplaced, is_own, own, Checked, Held, holding, Noted, IsNoted, PeeksAreHeld, fits}
use Rattle.dav_cache.proofs.Places.{get-replicate}
use Rattle.dav_cache.proofs.Turns.{Came, Turned, misplaced, turned, tells_placed, each_turn}

pub run-append : (s : State) (xs ys : List Event) → run s (xs ++ ys) ≡ run (run s xs) ys
run-append s [] ys = refl
run-append s (x ∷ xs) ys = run-append (step s x) xs ys

own-append : (c : ℕ) (s : State) (xs ys : List Event) → own c s (xs ++ ys) ≡ own c s xs ++ own c (run s xs) ys
own-append c s [] ys = refl
own-append c s (x ∷ xs) ys =
    let rest = own-append c (step s x) xs ys in
    (elim (is_own c s x) as (λ b. (if b then x ∷ own c (step s x) (xs ++ ys) else own c (step s x) (xs ++ ys)) ≡ (if b then x ∷ own c (step s x) xs else own c (step s x) xs) ++ own c (run (step s x) xs) ys) [
      | true ↦ ap (λ l. x ∷ l) rest
      | false ↦ rest
    ])

-- the caller's own events, with one more event
own-more : (c : ℕ) (s : State) (done : List Event) (e : Event) → is_own c (run s done) e ≡ true → own c s (done ++ e ∷ []) ≡ own c s done ++ e ∷ []
own-more c s done e h = own-append c s done (e ∷ []) ∙ ap (λ b. own c s done ++ (if b then e ∷ [] else [])) h

own-other : (c : ℕ) (s : State) (done : List Event) (e : Event) → is_own c (run s done) e ≡ false → own c s (done ++ e ∷ []) ≡ own c s done
own-other c s done e h = own-append c s done (e ∷ []) ∙ ap (λ b. own c s done ++ (if b then e ∷ [] else [])) h ∙ append-nil (own c s done)

-- ---- what a place tells

abbrev pub EndsWith : List Event → List Event → Type 0
EndsWith events last = (earlier : List Event) × (events ≡ earlier ++ last)

module _ (s0 : State) where
  abbrev pub Tells : List Event → ℕ → Place → Type 0
  Tells done c Idle = Unit {0}
  Tells done c (Asked dir name) = EndsWith (own c s0 done) (Ask c dir name ∷ [])
  Tells done c (Peeked dir name number time) =
      EndsWith (own c s0 done) (Ask c dir name ∷ Peek c ∷ []) × Noted s0 done c (holding dir name number time) []
  Tells done c (Passed dir name number time) = Checked s0 done c dir name time × Noted s0 done c (holding dir name number time) (Check c false ∷ [])
  Tells done c (Failed dir) = Unit {0}
  Tells done c (Begun dir) = Unit {0}
  Tells done c (Lists l) = Unit {0}
  Tells done c (Ended l after) = Unit {0}
  Tells done c (Finding path) = EndsWith (own c s0 done) (Find c path ∷ [])
  Tells done c (Got asked path) = EndsWith (own c s0 done) (Find c asked ∷ Get c ∷ [])
  Tells done c (Missed asked) = Unit {0}

  ends_still : (done : List Event) (c : ℕ) (e : Event) (last : List Event) → is_own c (run s0 done) e ≡ false → EndsWith (own c s0 done) last
      → EndsWith (own c s0 (done ++ e ∷ [])) last
  ends_still done c e last not_own h = (h.0, own-other c s0 done e not_own ∙ h.1)

  ends_more : (done : List Event) (c : ℕ) (e : Event) (last : List Event) → is_own c (run s0 done) e ≡ true → EndsWith (own c s0 done) last
      → EndsWith (own c s0 (done ++ e ∷ [])) (last ++ e ∷ [])
  ends_more done c e last is h = (h.0, own-more c s0 done e is ∙ ap (λ l. l ++ e ∷ []) h.1 ∙ append_assoc h.0 last (e ∷ []))

  checked_still : (done : List Event) (c : ℕ) (e : Event) (dir : Names) (name : Name) (time : FileTime) → is_own c (run s0 done) e ≡ false
      → Checked s0 done c dir name time → Checked s0 (done ++ e ∷ []) c dir name time
  checked_still done c e dir name time not_own h =
      let first = h.before ++ Check c false ∷ [] in
      let whole : first ++ h.between ≡ h.before ++ Check c false ∷ h.between = append_assoc h.before (Check c false ∷ []) h.between in
      let now : run s0 done ≡ run (run s0 first) h.between = ap (run s0) (h.parts ∙ sym whole) ∙ run-append s0 first h.between in
      record {
        earlier = h.earlier;
        before = h.before;
        between = h.between ++ e ∷ [];
        parts = ap (λ l. l ++ e ∷ []) h.parts ∙ append_assoc h.before (Check c false ∷ h.between) (e ∷ []);
        asked = h.asked;
        waited = own-other c (run s0 first) h.between e (subst (λ w. is_own c w e ≡ false) now not_own) ∙ h.waited;
        found = h.found;
      }

  -- what a caller noted at its Peek, with one more event
  noted_with : (done : List Event) (c : ℕ) (e : Event) (held : Held) (since since' : List Event) → (h : Noted s0 done c held since)
      → own c (run s0 (h.before ++ Peek c ∷ [])) (h.between ++ e ∷ []) ≡ since' → Noted s0 (done ++ e ∷ []) c held since'
  noted_with done c e held since since' h waited = record {
    earlier = h.earlier;
    before = h.before;
    between = h.between ++ e ∷ [];
    parts = ap (λ l. l ++ e ∷ []) h.parts ∙ append_assoc h.before (Peek c ∷ h.between) (e ∷ []);
    asked = h.asked;
    waited = waited;
    entry = h.entry;
    found = h.found;
    same_number = h.same_number;
    same_time = h.same_time;
  }

  noted_now : (done : List Event) (c : ℕ) (held : Held) (since : List Event) → (h : Noted s0 done c held since)
      → run s0 done ≡ run (run s0 (h.before ++ Peek c ∷ [])) h.between
  noted_now done c held since h =
      let first = h.before ++ Peek c ∷ [] in
      let whole : first ++ h.between ≡ h.before ++ Peek c ∷ h.between = append_assoc h.before (Peek c ∷ []) h.between in
      ap (run s0) (h.parts ∙ sym whole) ∙ run-append s0 first h.between

  noted_still : (done : List Event) (c : ℕ) (e : Event) (held : Held) (since : List Event) → is_own c (run s0 done) e ≡ false
      → Noted s0 done c held since → Noted s0 (done ++ e ∷ []) c held since
  noted_still done c e held since not_own h =
      let now = noted_now done c held since h in
      noted_with done c e held since since h
      (own-other c (run s0 (h.before ++ Peek c ∷ [])) h.between e (subst (λ w. is_own c w e ≡ false) now not_own) ∙ h.waited)

  noted_more : (done : List Event) (c : ℕ) (e : Event) (held : Held) (since : List Event) → is_own c (run s0 done) e ≡ true
      → Noted s0 done c held since → Noted s0 (done ++ e ∷ []) c held (since ++ e ∷ [])
  noted_more done c e held since is h =
      let now = noted_now done c held since h in
      noted_with done c e held since (since ++ e ∷ []) h
      (own-more c (run s0 (h.before ++ Peek c ∷ [])) h.between e (subst (λ w. is_own c w e ≡ true) now is) ∙ ap (λ l. l ++ e ∷ []) h.waited)

  -- what is not the caller's own leaves it
  tells_still : (done : List Event) (c : ℕ) (e : Event) (p : Place) → is_own c (run s0 done) e ≡ false → Tells done c p → Tells (done ++ e ∷ []) c p
  tells_still done c e Idle n h = tt
  tells_still done c e (Asked dir name) n h = ends_still done c e (Ask c dir name ∷ []) n h
  tells_still done c e (Peeked dir name number time) n h =
      (ends_still done c e (Ask c dir name ∷ Peek c ∷ []) n h.0, noted_still done c e (holding dir name number time) [] n h.1)
  tells_still done c e (Passed dir name number time) n h =
      (checked_still done c e dir name time n h.0, noted_still done c e (holding dir name number time) (Check c false ∷ []) n h.1)
  tells_still done c e (Failed dir) n h = tt
  tells_still done c e (Begun dir) n h = tt
  tells_still done c e (Lists l) n h = tt
  tells_still done c e (Ended l after) n h = tt
  tells_still done c e (Finding path) n h = ends_still done c e (Find c path ∷ []) n h
  tells_still done c e (Got asked path) n h = ends_still done c e (Find c asked ∷ Get c ∷ []) n h
  tells_still done c e (Missed asked) n h = tt

  abbrev pub AllTell : List Event → State → Type 0
  AllTell done s = (c : ℕ) (p : Place) → slice_get s.places c ≡ Some p → Tells done c p

misplaced_not_own : (c : ℕ) (s : State) (e : Event) → told s e ≡ Misplaced → is_own c s e ≡ false
misplaced_not_own c s e h = ap (λ t. is_caller c e && not (is_misplaced t)) h ∙ and_off (is_caller c e)
  where
    and_off : (b : Bool) → (b && false) ≡ false
    and_off true = refl
    and_off false = refl

own_by : (c : ℕ) (s : State) (e : Event) (t : Told) → is_caller c e ≡ true → told s e ≡ t → is_misplaced t ≡ false → is_own c s e ≡ true
own_by c s e t who what is = ap (λ b. b && not (is_misplaced (told s e))) who ∙ ap (λ w. not (is_misplaced w)) what ∙ ap not is

-- ---- an event

module _ (s0 : State) (done : List Event) (all : AllTell s0 done (run s0 done)) (e : Event) where
  abbrev here : State
  here = run s0 done

  -- a place that a caller comes to by an event of its own
  came_tells : (c : ℕ) (p : Place) → is_own c here e ≡ true → Came here e c p → Tells s0 (done ++ e ∷ []) c p
  came_tells c (Asked dir name) mine came = (own c s0 done, own-more c s0 done e mine ∙ ap (λ w. own c s0 done ++ w ∷ []) came)
  came_tells c (Peeked dir name number time) mine (by_peek, from, entry, found, same_number, same_time) =
      let asked = all c (Asked dir name) from in (
        subst (λ w. EndsWith (own c s0 (done ++ e ∷ [])) (Ask c dir name ∷ w ∷ [])) by_peek (ends_more s0 done c e (Ask c dir name ∷ []) mine asked),
        record {
          earlier = asked.0;
          before = done;
          between = [];
          parts = ap (λ w. done ++ w ∷ []) by_peek;
          asked = asked.1;
          waited = refl;
          entry = entry;
          found = found;
          same_number = same_number;
          same_time = same_time;
        },
      )
  came_tells c (Passed dir name number time) mine (by_check, from, at) =
      let was = all c (Peeked dir name number time) from in (
        record {
          earlier = was.0.0;
          before = done;
          between = [];
          parts = ap (λ w. done ++ w ∷ []) by_check;
          asked = was.0.1;
          waited = refl;
          found = at;
        },
        subst (λ w. Noted s0 (done ++ e ∷ []) c (holding dir name number time) (w ∷ [])) by_check
            (noted_more s0 done c e (holding dir name number time) [] mine was.1),
      )
  came_tells c (Finding path) mine came = (own c s0 done, own-more c s0 done e mine ∙ ap (λ w. own c s0 done ++ w ∷ []) came)
  came_tells c (Got asked path) mine (by_get, from, entry, found, is) =
      subst (λ w. EndsWith (own c s0 (done ++ e ∷ [])) (Find c asked ∷ w ∷ [])) by_get
      (ends_more s0 done c e (Find c asked ∷ []) mine (all c (Finding asked) from))
  came_tells c _ mine came = tt

  turn_tells : (t : Turn) (b : Bool) → Turned here e t b → told here e ≡ t.1 → AllTell s0 (done ++ e ∷ []) t.0
  turn_tells t b misplaced is = λ c p h. tells_still s0 done c e p (misplaced_not_own c here e is) (all c p h)
  turn_tells t b (turned u tells made) is = λ c p h. elim (made.places c p h) [
    | inl (was, other) ↦ tells_still s0 done c e p (ap (λ b. b && not (is_misplaced (told here e))) other) (all c p was)
    | inr (mine, came) ↦ came_tells c p (own_by c here e u.1 mine is (tells_placed here e u.1 tells)) came
  ]

  step_tells : AllTell s0 (done ++ e ∷ []) (step here e)
  step_tells = turn_tells (turn here e) (fits here e) (each_turn here e) refl

-- ---- a run

run_tells : (s0 : State) (done events : List Event) → AllTell s0 done (run s0 done) → AllTell s0 (done ++ events) (run s0 (done ++ events))
run_tells s0 done [] all = subst (λ l. AllTell s0 l (run s0 l)) (sym (append-nil done)) all
run_tells s0 done (e ∷ events) all =
    let next : AllTell s0 (done ++ e ∷ []) (run s0 (done ++ e ∷ [])) = subst (AllTell s0 (done ++ e ∷ [])) (sym (run-append s0 done (e ∷ []))) (step_tells s0 done all e) in
    subst (λ l. AllTell s0 l (run s0 l)) (append_assoc done (e ∷ []) events) (run_tells s0 (done ++ e ∷ []) events next)

-- the places after any run from the start
pub all_tell : (tree : Tree) (callers paths dots : ℕ) (events : List Event)
    → AllTell (start tree callers paths dots) events (run (start tree callers paths dots) events)
all_tell tree callers paths dots events =
    let s0 = start tree callers paths dots in
    run_tells s0 [] events (λ c p h. subst (λ w. Tells s0 [] c w) (get-replicate callers c Idle p h) tt)

noted_at : (s : State) (events : List Event) (c : ℕ) (p : Place) → Tells s events c p → IsNoted s events c p
noted_at s events c (Peeked dir name number time) h = h.1
noted_at s events c (Passed dir name number time) h = h.1
noted_at s events c _ h = tt

pub peeks_held : (tree : Tree) (callers paths dots : ℕ) → PeeksAreHeld (start tree callers paths dots)
peeks_held tree callers paths dots events c p place =
    noted_at (start tree callers paths dots) events c p (all_tell tree callers paths dots events c p place)
