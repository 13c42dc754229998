use Rattle.std.proofs.Common.{inr}
use Rattle.session_rows.proofs.told.play_booked.Goals as goal

pub play_sessions-requires-clause-room : goal.play_sessions-requires-clause-room
play_sessions-requires-clause-room g c a b i d lt = (c.requires i d lt).room

pub play_sessions-requires-clause-may : goal.play_sessions-requires-clause-may
play_sessions-requires-clause-may g c a b i d lt = rw c.in_ok-cache.ensures (inr ((c.requires i d lt).still _))
