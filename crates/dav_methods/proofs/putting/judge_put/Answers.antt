use Rattle.dav_store.proofs.Staying.{reads_then}
use Rattle.dav_methods.proofs.putting.judge_put.Goals as goal

pub returns-in-Ok-clause-stays : goal.returns-in-Ok-clause-stays
returns-in-Ok-clause-stays g c = reads_then _ _ _ _ c.pass_parent.ensures.stays c.metadata.ensures.stays

pub returns-clause-stays : goal.returns-clause-stays
returns-clause-stays g c = reads_then _ _ _ _ c.pass_parent.ensures.stays c.metadata.ensures.stays
