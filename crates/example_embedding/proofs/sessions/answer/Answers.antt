use Rattle.std.proofs.Common.{refl}
use Rattle.dav_sessions.proofs.Settling.{settle_untold}
use Rattle.example_embedding.proofs.sessions.answer.Goals as goal

pub settle-requires : goal.settle-requires
settle-requires g c = settle_untold _ _ (λ dir time. refl)
