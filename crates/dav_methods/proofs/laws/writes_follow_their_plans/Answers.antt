use Rattle.dav_methods.proofs.plans.MakingFollows.{calendar_plan, mkcalendar_follows, mkcol_follows}
use Rattle.dav_methods.proofs.plans.PutFollows.{put_follows}
use Rattle.dav_methods.proofs.laws.writes_follow_their_plans.Goals as goal

pub returns-clause-mkcol : goal.returns-clause-mkcol
returns-clause-mkcol g ctx c rules k s follows ask is r t run =
    mkcol_follows g.S.GuardedFileSystem.view g.S.GuardedFileSystem.listings g.S.File.DavFile.view.writes c rules k s follows ask is r t run

pub returns-clause-mkcalendar : goal.returns-clause-mkcalendar
returns-clause-mkcalendar g ctx c rules k s follows ask is r t run =
    mkcalendar_follows g.S.GuardedFileSystem.view g.S.GuardedFileSystem.listings g.S.File.DavFile.view.writes c rules k s follows ask (calendar_plan rules ask is) r t run

pub returns-clause-put : goal.returns-clause-put
returns-clause-put g ctx c rules k s follows ask is r t run =
    put_follows g.S.GuardedFileSystem.view g.S.GuardedFileSystem.listings g.S.File.DavFile.view.writes c rules k s follows ask is r t run
