use Rattle.std.proofs.Common.{inl, refl}
use Rattle.session_rows.proofs.played.play.Goals as goal

pub play_sessions-requires-clause-may : goal.play_sessions-requires-clause-may
play_sessions-requires-clause-may g c a b i d lt = inl (λ dir time. refl)
