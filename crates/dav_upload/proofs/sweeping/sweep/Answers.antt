use Rattle.dav_upload.proofs.Closing.{stays_after}
use Rattle.dav_upload.proofs.sweeping.sweep.Goals as goal

pub returns-in-Ok-clause-stays : goal.returns-in-Ok-clause-stays
returns-in-Ok-clause-stays g c = stays_after g.S.GuardedFileSystem.view _ _ _ c.read_members.ensures.stays.keeps c.read_members.ensures.stays.loan c.take_members.ensures.stays
