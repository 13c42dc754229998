use Rattle.readcache_rows.proofs.Opens.{turned_for}
use Rattle.readcache_rows.proofs.opened.turn.Goals as goal

pub returns-in-Ok : goal.returns-in-Ok
returns-in-Ok g c = turned_for g.F.DavFile.view g.met.F.DavFile.stays g.met.F.DavFile.reads_on _ _ _ _ c.turn.ensures.done c.requires

pub returns-in-Err : goal.returns-in-Err
returns-in-Err g c = turned_for g.F.DavFile.view g.met.F.DavFile.stays g.met.F.DavFile.reads_on _ _ _ _ c.turn.ensures.done c.requires
