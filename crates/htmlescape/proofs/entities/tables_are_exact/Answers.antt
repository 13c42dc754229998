use Rattle.htmlescape.proofs.Tables.{table_named, table_count, minimal_is}
use Rattle.htmlescape.proofs.entities.tables_are_exact.Goals as goal

pub returns : goal.returns
returns c = record { named = table_named; count = table_count; minimal = minimal_is }
