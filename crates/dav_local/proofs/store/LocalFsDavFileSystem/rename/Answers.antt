use Rattle.std.proofs.Common.{◌∙◌}
use Rattle.dav_store.proofs.Staying.{open_after}
use Rattle.dav_local.proofs.store.LocalFsDavFileSystem.rename.Goals as goal

pub returns-clause-stays : goal.returns-clause-stays
returns-clause-stays g c = record {
  keeps = open_after _ _ _ c.in_ok-first.ensures.done.keeps (open_after _ _ _ c.in_ok-second.ensures.done.keeps c.move_at.ensures.keeps);
  loan = c.move_at.ensures.loan ∙ (c.in_ok-second.ensures.loan ∙ c.in_ok-first.ensures.loan);
}
