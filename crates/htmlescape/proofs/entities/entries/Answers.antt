use Rattle.std.proofs.Common.{refl}
use Rattle.htmlescape.specs.Table.{table}
use Rattle.htmlescape.proofs.entities.entries.Goals as goal

pub returns : goal.returns
unfolding table
returns c = refl
