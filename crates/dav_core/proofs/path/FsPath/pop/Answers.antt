use Rattle.std.proofs.Common.{ap, ◌∙◌}
use Rattle.dav_core.specs.Path.{all_plain}
use Rattle.dav_core.proofs.Plain.{plain_take}
use Rattle.dav_core.proofs.path.FsPath.pop.Goals as goal

pub invariant_of-self : goal.invariant_of-self
invariant_of-self c = ap all_plain c.truncate.ensures.items ∙ plain_take c.saturating_sub-kept.result c.self.inside.names.items c.self.invariant
