use Rattle.std.proofs.Common.{ℕ, ◌∷◌, ◌++◌, [], subst, sym}
use Rattle.htmlescape.specs.Running.{Stepped, Faulty}
use Rattle.htmlescape.specs.declared.state.Step.TheVariants.{Whole}
use Rattle.htmlescape.specs.declared.faults.DecodeErrKind.TheVariants.{UnknownEntity}
use Rattle.htmlescape.proofs.Steps.{name_whole, name_none}
use Rattle.htmlescape.proofs.state.after_name.Goals as goal

pub returns-in-Some : goal.returns-in-Some
returns-in-Some c = λ name b k.
    let P : ℕ → Type 0 = λ d. Stepped (38 ∷ (name ++ d ∷ [])) (Whole c.in-Some.found) in
    subst P (sym c.if-c-ne59.false) (name_whole name c.in-Some.found (sym (c.in-Some.ensures name k)))

pub returns-in-None : goal.returns-in-None
returns-in-None c = λ name b k.
    let P : ℕ → Type 0 = λ d. Faulty UnknownEntity (38 ∷ (name ++ d ∷ [])) in
    subst P (sym c.if-c-ne59.false) (name_none name b (sym (c.in-None.ensures name k)))
