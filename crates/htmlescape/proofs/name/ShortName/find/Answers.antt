use Rattle.std.proofs.Common.{[], ap, sym, ◌∙◌, append-nil}
use Rattle.htmlescape.specs.Names.{named}
use Rattle.htmlescape.proofs.name.ShortName.find.Goals as goal

pub returns-else-self-le-LONGEST : goal.returns-else-self-le-LONGEST
returns-else-self-le-LONGEST c = λ name k. sym (ap named (sym (append-nil name)) ∙ k.lost c.if-self-le-LONGEST.false [])
