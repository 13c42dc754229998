use Rattle.std.proofs.Common.{refl}
use Rattle.session_rows.proofs.Telling.{other_time}
use Rattle.session_rows.proofs.told.told_sessions.Goals as goal

pub add_sessions-requires-clause-told : goal.add_sessions-requires-clause-told
add_sessions-requires-clause-told c = record { set = refl; plain = refl; book = λ at. refl }

pub add_sessions-requires-2-clause-told : goal.add_sessions-requires-2-clause-told
add_sessions-requires-2-clause-told c = record { set = refl; plain = refl; book = other_time _ }
