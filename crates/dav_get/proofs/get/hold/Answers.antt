use Rattle.dav_store.proofs.Lending.{lends_same}
use Rattle.dav_get.proofs.get.hold.Goals as goal

pub returns-clause-store : goal.returns-clause-store
returns-clause-store g c = lends_same g.S.GuardedFileSystem.view g.S.GuardedFileSystem.listings g.met.S.GuardedFileSystem.fits g.met.S.GuardedFileSystem.puts_back c.args.fs.now
