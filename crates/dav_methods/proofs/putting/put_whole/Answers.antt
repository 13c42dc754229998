use Rattle.std.proofs.Common.{Ok}
use Rattle.dav_store.proofs.Staying.{stays_after}
use Rattle.dav_methods.proofs.putting.put_whole.Goals as goal

pub returns-clause-table : goal.returns-clause-table
returns-clause-table g c = (Ok c.in-Ok.outcome, c.judge_put.new.fs, c.in-Ok.ensures.table, c.put_bytes.ensures.table)

pub returns-clause-stays : goal.returns-clause-stays
returns-clause-stays g c = stays_after _ _ _ _ c.judge_put.ensures.stays c.put_bytes.ensures.stays
