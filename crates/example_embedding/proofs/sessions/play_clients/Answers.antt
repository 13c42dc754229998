use Rattle.std.proofs.Common.{inl, refl}
use Rattle.example_embedding.proofs.sessions.play_clients.Goals as goal

pub play_sessions-requires-clause-may : goal.play_sessions-requires-clause-may
play_sessions-requires-clause-may g c a b i d lt = inl (λ dir time. refl)
