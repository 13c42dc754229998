use Rattle.dav_upload.proofs.Closing.{stays_after}
use Rattle.dav_upload.proofs.leftovers.sweep_before.Goals as goal

pub returns-in-Ok-clause-stays : goal.returns-in-Ok-clause-stays
returns-in-Ok-clause-stays g c = stays_after g.S.GuardedFileSystem.view _ _ _ c.left_before.ensures.stays.keeps c.left_before.ensures.stays.loan c.take_each.ensures.stays
