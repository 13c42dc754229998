use Rattle.std.proofs.Common.{◌≡◌, true, refl, sym, ◌∙◌, subst, IsTrue}
use Rattle.dav_local.proofs.Grounds.{lacks_searched, search_lacks}
use Rattle.dav_local.proofs.walk.search_in.Goals as goal

pub returns-then-lacks-clause-done : goal.returns-then-lacks-clause-done
returns-then-lacks-clause-done g c = search_lacks _ _ _ (c.lacks.ensures c.if-lacks.true)

pub note-requires : goal.note-requires
note-requires g c = lacks_searched (g.D.Disk.state c.args.disk.now) _ _ _ _ (g.met.D.Disk.world c.args.disk.now) c.in-Ok-None.field-0-is c.in-Ok-None.ensures.done
