use Rattle.std.proofs.Common.{rules}
use Rattle.dav_io.proofs.AppendingLemmas.{put_more, put_refused}
use Rattle.dav_io.proofs.writing.put_all.Goals as goal

pub loop-rest-preserved : goal.loop-rest-preserved
loop-rest-preserved g c = let i = c.loop-rest.invariant in rw c.split_at.ensures.back (put_more _ _ _ i.0 _ _ _ i.1 i.2 c.in-Ok.ensures)

pub returns-in-Err : goal.returns-in-Err
returns-in-Err g c = let i = c.loop-rest.invariant in put_refused _ _ _ i.0 _ _ _ i.1 (search rules) i.2 c.in-Err.ensures
