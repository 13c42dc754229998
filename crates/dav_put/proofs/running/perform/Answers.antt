use Rattle.dav_put.proofs.Failing.{stored_rose, swept_rose}
use Rattle.dav_put.proofs.running.perform.Goals as goal

pub returns-in-Store-clause-failed : goal.returns-in-Store-clause-failed
returns-in-Store-clause-failed g c = λ few failed.
    stored_rose g.S.GuardedFileSystem.view g.S.GuardedFileSystem.listings g.S.File.DavFile.view.writes c.args.credentials.now few _ _ _ _ _ _ _ failed c.store_at.ensures.table

pub returns-in-Sweep-clause-failed : goal.returns-in-Sweep-clause-failed
returns-in-Sweep-clause-failed g c = λ few failed.
    swept_rose g.S.GuardedFileSystem.view g.S.GuardedFileSystem.listings g.S.File.DavFile.view.writes c.args.credentials.now few _ _ _ _ _ failed c.sweep_at.ensures.table
