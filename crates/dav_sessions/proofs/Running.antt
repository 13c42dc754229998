-- A step of a session, and what it leaves.
use Rattle.std.proofs.Common.{◌≡◌, ◌<◌, inl, inr, ℕ, zero, suc, true, List, [], ◌∷◌, length, get_or, Option, None, refl, sym, ap, subst, ◌∙◌, arith}
use Rattle.std.specs.List.{AllByRecursion}
use Rattle.dav_model.specs.declared.answer.Answer.{Answer}
use Rattle.dav_model.specs.declared.step.Step.{Step}
use Rattle.dav_model.specs.Play.{Playing, Stands}
use Rattle.dav_model.specs.Rules.{Rules}
use Rattle.dav_model.specs.Trail.{Point}
use Rattle.dav_shared.specs.declared.waiting.Waiting.{Waiting}
use Rattle.dav_shared.specs.Waits.{waiting}
use Rattle.dav_shared.specs.Books.{Page, Listing, MaySettle, kept_by}
use Rattle.dav_model.specs.Still.{is_quiet}
use Rattle.dav_model.proofs.StillSteps.{step_agrees, still_after}
use Rattle.dav_local.specs.Shown.{knowledge_of}
use Rattle.dav_sessions.specs.Sessions.{MayShare, known_by_page}
use Rattle.dav_sessions.specs.Running.{GoesOn}
use Rattle.dav_sessions.proofs.Settling.{may_settle, settle_untold}

pub begins : (page : Page) (rules : Rules) (s : Point) (steps : List Step) → MayShare page rules s steps → GoesOn page rules s steps
begins page rules s steps (inl untold) = inl untold
begins page rules s steps (inr still) = inr (still.world, still.stands, still.quiet, still.fits)

all_at : (P : Step → Type 0) (steps : List Step) (i : ℕ) (x : Step) → AllByRecursion P steps → i < length steps → x ≡ get_or steps i x → P x
all_at P [] i x all lt is = absurd (omega (arith, lt))
all_at P (step ∷ steps) zero x all lt is = subst P (sym is) all.0
all_at P (step ∷ steps) (suc i) x all lt is = all_at P steps i x all.1 (omega (arith, lt)) is

-- what waits behind a step may be settled
pub settles : (page other : Page) (p q : Playing) (s t : Point) (x : Step) (a : Answer) (steps : List Step) (waits : Option Listing)
    → p.knows ≡ known_by_page page → q.knows ≡ knowledge_of (kept_by other waits) → GoesOn page p.rules s steps → Stands p s t x a q → MaySettle page waits
settles page other p q s t x a steps waits before after (inl untold) st = settle_untold page waits untold
settles page other p q s t x a steps waits before after (inr (w, stands, quiet, fits)) st =
    may_settle page other waits (λ dir time had has known learned.
    step_agrees w p q s t x a (subst (λ k. Rattle.dav_model.specs.Still.Fits k w) (sym before) fits) stands st dir time had has
    (ap (λ (k : Rattle.dav_model.specs.Rules.Knowledge). k.names dir time) before ∙ known) (ap (λ (k : Rattle.dav_model.specs.Rules.Knowledge). k.names dir time) after ∙ learned))

-- the next step finds the world as it was
pub goes_on : (page : Page) (p q : Playing) (s t : Point) (x : Step) (a : Answer) (steps : List Step) (i : ℕ) → i < length steps → x ≡ get_or steps i x
    → GoesOn page p.rules s steps → Stands p s t x a q → GoesOn page p.rules t steps
goes_on page p q s t x a steps i lt at (inl untold) st = inl untold
goes_on page p q s t x a steps i lt at (inr (w, stands, quiet, fits)) st =
    inr (w, still_after w p q s t x a (all_at (λ step. is_quiet p.rules step ≡ true) steps i x quiet lt at) st stands, quiet, fits)

-- what a memory knows of which no listing waits
pub known_now : (names : ℕ → Page) (own folder : ℕ) (waits : Option Waiting) → own ≡ folder → waits ≡ None
    → knowledge_of (kept_by (names own) (waiting waits)) ≡ known_by_page (names folder)
known_now names own folder waits same none = rw (same, none) refl
