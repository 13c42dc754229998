use Rattle.std.proofs.Common.{Option, None, Some, IfSome}
use Rattle.dav_local.specs.declared.ground.Missing.{Missing}
use Rattle.dav_local.proofs.Grounds.{if_missing, lacks_next}
use Rattle.dav_local.proofs.ground.GroundDisk.list_next.Goals as goal

pub invariant_of-self : goal.invariant_of-self
invariant_of-self g c = if_missing {A = Missing} _ _ _ (λ m lacks. lacks_next _ _ m.at m.folding _ _ (g.met.D.Disk.world c.self.inside.disk) c.list_next.ensures.done.told lacks) c.self.invariant
