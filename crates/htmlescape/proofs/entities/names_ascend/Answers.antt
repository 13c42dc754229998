use Rattle.htmlescape.proofs.Tables.{names_sorted}
use Rattle.htmlescape.proofs.entities.names_ascend.Goals as goal

pub returns : goal.returns
returns c = names_sorted
