use Rattle.dav_fault_laws.proofs.RowsLeft.{rows_left}
use Rattle.dav_fault_laws.proofs.pages_lack_rows_in_order.Goals as goal

pub returns : goal.returns
returns c = λ w dir some whole is. rows_left w dir.names dir some whole is.tree
