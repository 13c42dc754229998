use Rattle.std.proofs.Common.{Option, None, Some, IfSome}
use Rattle.dav_local.specs.declared.ground.Missing.{Missing}
use Rattle.dav_local.proofs.Grounds.{if_missing, lacks_told}
use Rattle.dav_local.proofs.ground.GroundDisk.meta.Goals as goal

pub invariant_of-self : goal.invariant_of-self
invariant_of-self g c = if_missing {A = Missing} _ _ _ (λ m lacks. lacks_told _ _ m.at m.folding c.meta.ensures.done.world lacks) c.self.invariant
