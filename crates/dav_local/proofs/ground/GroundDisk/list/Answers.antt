use Rattle.std.proofs.Common.{Option, None, Some, IfSome}
use Rattle.dav_local.specs.declared.ground.Missing.{Missing}
use Rattle.dav_local.proofs.Grounds.{if_missing, lacks_list}
use Rattle.dav_local.proofs.ground.GroundDisk.list.Goals as goal

pub invariant_of-self : goal.invariant_of-self
invariant_of-self g c = if_missing {A = Missing} _ _ _ (λ m lacks. lacks_list _ _ m.at _ m.folding _ (g.met.D.Disk.world c.self.inside.disk) c.list.ensures.done.told lacks) c.self.invariant
