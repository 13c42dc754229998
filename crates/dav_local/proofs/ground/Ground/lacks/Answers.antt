use Rattle.std.proofs.Common.{◌≡◌, true, IsTrue, IfSome, sym, ◌∙◌, subst}
use Rattle.dav_local.specs.Ground.{Lacks}
use Rattle.dav_local.proofs.Grounds.{is_missing}
use Rattle.dav_local.proofs.ground.Ground.lacks.Goals as goal

pub returns-then-eq : goal.returns-then-eq
returns-then-eq g c = λ yes. is_missing _ _ _ _ _ c.eq.result c.eq-then-eq.result c.eq.ensures c.if-eq.true c.eq-then-eq.ensures
    (subst (λ d. Lacks (g.D.Disk.state d) c.in-Some.missing.at c.in-Some.missing.folding) c.self.view_is (subst (λ m. IfSome m (λ x. Lacks (g.D.Disk.state c.self.inside.disk) x.at x.folding)) c.in-Some.is c.self.invariant)) yes
