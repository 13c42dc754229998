-- A body at its end stays there.
use Rattle.std.proofs.Common.{◌≡◌, ℕ, List, [], ◌∷◌, Bool, true, false, Option, None, Some, Result, sym, ◌∙◌, ap}
use Rattle.std.specs.List.{AllByRecursion}
use Rattle.dav_body.specs.declared.stream.AsyncStream.{AsyncStream}
use Rattle.dav_body.specs.declared.body.BodyType.{BodyType}
use Rattle.dav_body.specs.declared.body.BodyType.TheVariants.{Bytes, AsyncStream as Stream, Empty}
use Rattle.dav_body.specs.Steps.{is_end}
use Rattle.dav_body.specs.Streams.{GivesUntil}
use Rattle.dav_body.specs.Bodies.{BodyGives, PollsGive}

-- nothing is left of the body
abbrev IsOver : {S : Type 0} → BodyType S → Type 0
IsOver (Bytes (Some bytes)) = ⊥
IsOver (Bytes None) = Unit {0}
IsOver (Stream a) = a.ended ≡ true
IsOver Empty = Unit {0}

same_stream : {S : Type 0} (c a : AsyncStream S) → c.steps ≡ a.steps → c.ended ≡ a.ended → c ≡ a
same_stream c a e f = λ i. record { steps = e i; ended = f i }

module _ {S X E : Type 0} (gives : S → X → Option (Result (List ℕ) E) → S → X → Type 0) (ends : E → Bool) where
  until_end : (ended : Bool) (s : S) (x : X) (told : Option (Result (List ℕ) E)) (t : S) (y : X) (after : Bool)
      → GivesUntil gives ends ended s x told t y after → is_end ends told ≡ true → after ≡ true
  until_end true s x told t y after (none, same, still, is) end = is
  until_end false s x told t y after (gave, is) end = is ∙ end

  after_end : (ended : Bool) (s : S) (x : X) (told : Option (Result (List ℕ) E)) (t : S) (y : X) (after : Bool)
      → GivesUntil gives ends ended s x told t y after → ended ≡ true → (told ≡ None) × (t ≡ s) × (after ≡ true)
  after_end true s x told t y after (none, same, still, is) over = (none, same, is)
  after_end false s x told t y after gave over = cc

  over_at_end : (a : BodyType S) (x : X) (told : Option (Result (List ℕ) E)) (b : BodyType S) (y : X)
      → BodyGives gives ends a x told b y → is_end ends told ≡ true → IsOver b
  over_at_end (Bytes (Some bytes)) x told b y (is, none, same) end = rw none tt
  over_at_end (Bytes None) x told b y (is, none, same) end = rw none tt
  over_at_end (Stream a) x told (Stream c) y gave end = until_end _ _ _ _ _ _ _ gave end
  over_at_end (Stream a) x told (Bytes bytes) y gave end = absurd gave
  over_at_end (Stream a) x told Empty y gave end = absurd gave
  over_at_end Empty x told b y (is, none, same) end = rw none tt

  stays_over : (a : BodyType S) (x : X) (told : Option (Result (List ℕ) E)) (b : BodyType S) (y : X)
      → IsOver a → BodyGives gives ends a x told b y → (told ≡ None) × (b ≡ a)
  stays_over (Bytes (Some bytes)) x told b y over gave = absurd over
  stays_over (Bytes None) x told b y over (is, none, same) = (is, none)
  stays_over (Stream a) x told (Stream c) y over gave = let left = after_end _ _ _ _ _ _ _ gave over in
      (left.0, ap Stream (same_stream c a left.1 (left.2 ∙ sym over)))
  stays_over (Stream a) x told (Bytes bytes) y over gave = absurd gave
  stays_over (Stream a) x told Empty y over gave = absurd gave
  stays_over Empty x told b y over (is, none, same) = (is, none)

  pub over_for_good : (b : BodyType S) (later : List (Option (Result (List ℕ) E))) (c : BodyType S)
      → IsOver b → PollsGive (BodyGives gives ends) b later c → AllByRecursion (λ (answer : Option (Result (List ℕ) E)). answer ≡ None) later × (c ≡ b)
  over_for_good b [] c over same = (tt, same)
  over_for_good b (told ∷ more) c over (m, x, y, gave, polls) =
      let first = stays_over b x told m y over gave in
      let there = over_for_good m more c (let P : BodyType S → Type 0 = λ n. IsOver n in rw first.1 over) polls in
      ((first.0, there.0), there.1 ∙ first.1)

  pub ended_stays : (a b c : BodyType S) (x y : X) (told : Option (Result (List ℕ) E)) (later : List (Option (Result (List ℕ) E)))
      → BodyGives gives ends a x told b y → is_end ends told ≡ true → PollsGive (BodyGives gives ends) b later c
      → AllByRecursion (λ (answer : Option (Result (List ℕ) E)). answer ≡ None) later × (c ≡ b)
  ended_stays a b c x y told later gave end polls = over_for_good b later c (over_at_end a x told b y gave end) polls
