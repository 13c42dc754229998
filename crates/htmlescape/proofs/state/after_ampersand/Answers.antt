use Rattle.std.proofs.Common.{ℕ, ◌∷◌, [], subst, sym}
use Rattle.htmlescape.specs.Running.{Faulty}
use Rattle.htmlescape.specs.declared.faults.DecodeErrKind.TheVariants.{UnknownEntity}
use Rattle.htmlescape.proofs.Steps.{ampersand_end}
use Rattle.htmlescape.proofs.state.after_ampersand.Goals as goal

pub returns-in-59 : goal.returns-in-59
returns-in-59 c = let P : ℕ → Type 0 = λ d. Faulty UnknownEntity (38 ∷ d ∷ []) in subst P (sym c.in-59.is) ampersand_end
