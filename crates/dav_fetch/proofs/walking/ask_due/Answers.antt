use Rattle.std.proofs.Common.{[], IfOk, inl, refl, ap, subst, rules}
use Rattle.dav_core.specs.DavPath.{WebPath}
use Rattle.dav_fetch.specs.Fetching.{NotAsked, Visited}
use Rattle.dav_fetch.specs.Reading.{IsOver}
use Rattle.dav_fetch.specs.Walk.{IsPageOf, Visit}
use Rattle.dav_fetch.proofs.Visiting.{pages_due}
use Rattle.dav_fetch.proofs.walking.ask_due.Goals as goal

pub returns-clause-err : goal.returns-clause-err
returns-clause-err g c = pages_due c.args.dir.now c.in-Ok.path (record { made = c.args.made; most = c.args.most }) _ _ c.ask_page.result c.in-Ok.ensures.value (search rules) (search rules) c.ask_page.ensures.err

pub returns-clause-ok : goal.returns-clause-ok
returns-clause-ok g c =
    subst (λ n. IfOk c.ask_page.result (λ found. (visit : Visit) × Visited (g.P.Peer.state c.args.peer.now) visit (g.P.Peer.state c.ask_page.new.peer) × IsPageOf n visit found.items × IsOver (g.P.Peer.state c.ask_page.new.peer)))
    (ap (λ (p : WebPath). p.names) c.in-Ok.ensures.value) c.ask_page.ensures.ok

pub returns-in-Err-clause-err : goal.returns-in-Err-clause-err
returns-in-Err-clause-err g c =
    let s = g.P.Peer.state c.args.peer.now in
    ([], inl (refl, subst (λ p. NotAsked p c.args.made c.args.most c.in-Err.error s s) c.in-Ok.ensures.value (c.in-Err.ensures.err s)))
