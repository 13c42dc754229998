use Rattle.std.proofs.Common.{◌≡◌, ◌+◌, ◌≤◌, List, take, Ok}
use Rattle.dav_handler.specs.Player.{playing_of, stage_of}
use Rattle.dav_model.specs.Play.{Played}
use Rattle.dav_model.specs.Trail.{Move}
use Rattle.dav_sessions.specs.Running.{GoesOn}
use Rattle.dav_sessions.specs.Sessions.{known_by_page}
use Rattle.dav_sessions.proofs.playing.play_on.Given as goal

-- the steps so far were played, and the memory knows what the page tells
abbrev pub invariant-loop-step : goal.invariant-loop-step
invariant-loop-step g l = record {
  played : (trail : List Move) × Played trail (stage_of l.fn.player) (take l.step-index l.steps) l.fn.answers.items l.answers.items (Ok tt) (stage_of l.player);
  knows : (playing_of l.player).knows ≡ known_by_page (g.B.Book.names l.fn.cache.folder);
  goes : GoesOn (g.B.Book.names l.fn.cache.folder) (playing_of l.player).rules (g.D.Disk.state l.player.store.disk) l.steps;
  loan : g.D.Disk.loan l.player.store.disk ≡ g.D.Disk.loan l.fn.player.store.disk;
  replies : l.player.replies ≤ l.fn.player.replies + l.step-index;
}
