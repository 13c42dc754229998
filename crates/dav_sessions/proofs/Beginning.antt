-- Sessions that end before their first step is made, and what was played by copies.
use Rattle.std.proofs.Common.{◌≡◌, ◌==◌, ◌∙◌, Bool, true, false, List, [], ◌∷◌, length, Result, Ok, Err, ℕ, refl, sym, arith}
use Rattle.std.proofs.lemmas.Bool.Decides.{nat_tests}
use Rattle.dav_io.specs.declared.failure.NoMemory.{NoMemory}
use Rattle.dav_model.specs.declared.step.Step.{Step}
use Rattle.dav_model.specs.declared.answer.Answer.{Answer}
use Rattle.dav_model.specs.Play.{TellsOpen, TellsWorld}
use Rattle.dav_model.specs.Rules.{Rules}
use Rattle.dav_model.specs.Trail.{Point}
use Rattle.dav_model.proofs.Denied.{played_on}
use Rattle.dav_model.proofs.JoiningLemmas.{none_played, not_begun, refused_at}
use Rattle.dav_shared.specs.Books.{Page}
use Rattle.dav_sessions.specs.Sessions.{PlaysFrom, ready}

is_zero : (b : Bool) (n : ℕ) → b ≡ (n == 0) → b ≡ true → n ≡ 0
is_zero b n e f = grind (arith, nat_tests)

-- A player that has no body has none that isn't open.
holds_none : (page : Page) (rules : Rules) (s : Point) → TellsWorld s → TellsOpen s (ready page rules s).playing
holds_none page rules s world = record { world = world; files = λ w told body. tt }

-- without steps
pub plays_none : (page : Page) (rules : Rules) (s : Point) (steps : List Step) (old : List Answer) (b : Bool) → TellsWorld s → b ≡ (length steps == 0) → b ≡ true
    → PlaysFrom page rules s steps old (Ok tt) old s
plays_none page rules s [] old b world is none =
    (ready page rules s, played_on [] _ _ _ _ _ _ (none_played (ready page rules s) [] old (holds_none page rules s world) (λ body. tt) refl), refl)
plays_none page rules s (step ∷ steps) old b world is none = let zero : length (step ∷ steps) ≡ 0 = is_zero b (length (step ∷ steps)) is none in absurd (omega (arith, zero))

-- refused memory at the first step
pub plays_unbegun : (page : Page) (rules : Rules) (s : Point) (steps : List Step) (old : List Answer) (e : NoMemory) (b : Bool) → TellsWorld s → b ≡ (length steps == 0) → b ≡ false
    → PlaysFrom page rules s steps old (Err e) old s
plays_unbegun page rules s [] old e b world is some = let bad : false ≡ true = sym some ∙ is in absurd cc
plays_unbegun page rules s (step ∷ steps) old e b world is some =
    let a = ready page rules s in (
      a,
      played_on [] _ _ _ _ _ _ (refused_at [] a a a step (step ∷ steps) 0 old old old e
          (none_played a [] old (holds_none page rules s world) (λ body. tt) refl) (omega arith) refl refl (not_begun a step e (holds_none page rules s world))),
      refl,
    )

-- by copies of the settings, the steps and the answers
pub plays_by : (page : Page) (a b : Rules) (s t : Point) (xs steps : List Step) (had old given new : List Answer) (outcome : Result Unit NoMemory)
    → a ≡ b → xs ≡ steps → had ≡ old → new ≡ given → PlaysFrom page a s xs had outcome given t → PlaysFrom page b s steps old outcome new t
plays_by page a b s t xs steps had old given new outcome rules at was now played = rw (sym rules, sym at, sym was, now) played
