use Rattle.std.proofs.Common.{◌++◌, ◌∷◌, [], refl}
use Rattle.htmlescape.proofs.Steps.{longer_10, decimal_end}
use Rattle.htmlescape.proofs.state.after_decimal.Goals as goal

pub returns-in-Some : goal.returns-in-Some
returns-in-Some c = let v = c.in-Some.ensures.value in λ digits k. (digits ++ c.args.c ∷ [], refl, longer_10 digits c.args.c c.args.value _ _ k v.0 v.1 c.longer.ensures)

pub returns-in-None : goal.returns-in-None
returns-in-None c = λ digits k. decimal_end digits c.args.value c.args.c _ k c.in-None.ensures.value c.at_end.ensures
