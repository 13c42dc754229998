use Rattle.std.proofs.Common.{◌≡◌, Option, None, Some, IfSome}
use Rattle.dav_local.specs.Ground.{Lacks}
use Rattle.dav_local.specs.declared.ground.Missing.{Missing}
use Rattle.dav_local.proofs.Grounds.{if_missing}
use Rattle.dav_local.proofs.ground.Ground.note.Goals as goal

pub invariant_of-self : goal.invariant_of-self
invariant_of-self g c =
    if_missing {A = Missing} _ (λ m. (m.at ≡ c.args.at.now) × (m.folding ≡ c.args.folding.now)) (λ m. Lacks (g.D.Disk.state c.self.inside.disk) m.at m.folding)
    (λ m same. rw (same.0, same.1, c.self.view_is) c.requires) c.noted.ensures
