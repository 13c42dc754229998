-- Misplaced is told exactly where an event doesn't fit.
use Rattle.std.proofs.Common.{◌≡◌, Bool, false, refl, subst}
use Rattle.std.proofs.lemmas.Bool.{true≢false}
use Rattle.dav_cache.specs.Core.{Event, State, Turn, turn}
use Rattle.dav_cache.specs.declared.event.Told.TheVariants.{Misplaced}
use Rattle.dav_cache.specs.Transparency.{fits, IsMisplacedExactly}
use Rattle.dav_cache.proofs.Turns.{Tells, Turned, misplaced, turned, each_turn}

-- what a turn says, beside whether the event fits
record Fitting (s : State) (t : Turn) (b : Bool) : Type 0 where
  says : t.1 ≡ Misplaced → b ≡ false
  said : b ≡ false → t.1 ≡ Misplaced
  same : t.1 ≡ Misplaced → t.0 ≡ s

turn_fits : (s : State) (e : Event) (t : Turn) (b : Bool) → Turned s e t b → Fitting s t b
turn_fits s e t b misplaced = record { says = λ h. refl; said = λ h. refl; same = λ h. refl }
turn_fits s e t b (turned u tells made) = record {
  says = λ h. absurd (subst (Tells s e) h tells);
  said = λ h. absurd (true≢false h);
  same = λ h. absurd (subst (Tells s e) h tells);
}

pub misplaced_exactly : (s : State) (event : Event) → IsMisplacedExactly s event
misplaced_exactly s event =
    let f = turn_fits s event (turn s event) (fits s event) (each_turn s event) in
    record { exactly = (f.says, f.said); unchanged = f.same }
