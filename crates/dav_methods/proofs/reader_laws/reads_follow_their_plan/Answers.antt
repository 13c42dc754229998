use Rattle.dav_methods.proofs.plans.ReaderPutFollows.{read_follows}
use Rattle.dav_methods.proofs.reader_laws.reads_follow_their_plan.Goals as goal

pub returns : goal.returns
returns g ctx c rules k s follows ask is b n reads r t run =
    read_follows g.S.GuardedFileSystem.view g.S.GuardedFileSystem.listings g.S.File.DavFile.view.writes c rules k s follows ask is b n reads r t run
