use Rattle.std.proofs.Common.{Ok}
use Rattle.dav_store.proofs.Staying.{stays_after}
use Rattle.dav_methods.proofs.tables.PutBehindOpening.{put_read}
use Rattle.dav_methods.proofs.putting.put.Goals as goal

pub returns-clause-table : goal.returns-clause-table
returns-clause-table g c = (Ok c.in-Ok.outcome, c.judge_put.new.fs, c.in-Ok.ensures.table, c.put_body.ensures.table)

pub returns-clause-read : goal.returns-clause-read
returns-clause-read g c = put_read g.S.GuardedFileSystem.view _ _ _ _ _ _ _ _ _ c.put_body.ensures.table

pub returns-clause-stays : goal.returns-clause-stays
returns-clause-stays g c = stays_after _ _ _ _ c.judge_put.ensures.stays c.put_body.ensures.stays
