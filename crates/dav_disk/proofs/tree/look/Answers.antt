use Rattle.std.proofs.Common.{None, Some, Ok, Err}
use Rattle.dav_disk.proofs.Walks.{look_by}
use Rattle.dav_disk.proofs.tree.look.Goals as goal

pub returns-in-Ok-Some-clause-found : goal.returns-in-Ok-Some-clause-found
returns-in-Ok-Some-clause-found c = look_by c.args.rows.now c.args.path.now (Ok (Some c.in-Ok-Some.row.now)) (rw c.in-Ok-Some.field-0-is at c.in-Ok-Some.ensures.found)

pub returns-in-Ok-None-clause-found : goal.returns-in-Ok-None-clause-found
returns-in-Ok-None-clause-found c = look_by c.args.rows.now c.args.path.now (Ok None) (rw c.in-Ok-None.field-0-is at c.in-Ok-None.ensures.found)

pub returns-in-Err-clause-found : goal.returns-in-Err-clause-found
returns-in-Err-clause-found c = look_by c.args.rows.now c.args.path.now (Err c.in-Err.e) c.in-Err.ensures.found
