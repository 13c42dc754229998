use Rattle.std.proofs.Common.{◌≡◌, None, false, drop, refl, subst, sym, arith, rules}
use Rattle.std.specs.Result.{is_err}
use Rattle.dav_io.proofs.Cases.{if_some}
use Rattle.dav_model.specs.declared.answer.Answer.TheVariants.{Reply as Replied}
use Rattle.dav_handler.specs.Player.{playing_of, stage_of}
use Rattle.dav_mirror.specs.Came.{CameBy, file_of}
use Rattle.dav_mirror.specs.Playing.{peer_of}
use Rattle.dav_mirror.specs.Seen.{heard_by, peer_moment}
use Rattle.dav_mirror.proofs.Coming.{came_answered, came_stopped, came_unanswered, came_went}
use Rattle.dav_mirror.proofs.Standing.{hears_some, stays_told, turns_told, world_goes}
use Rattle.dav_mirror.proofs.Telling.{gets_reply, turned_counts}
use Rattle.dav_mirror.proofs.play_peer.PlayPeerPeer.get.Goals as goal

pub returns-in-Ok-ask-clause-gets : goal.returns-in-Ok-ask-clause-gets
returns-in-Ok-ask-clause-gets g c =
    let p = c.args.self.now in
    let m = c.end_reply.new.self in
    let reply = c.in-Ok-ask.reply in
    let heard = c.in-Some.field-0.heard in
    let turned = (turned_counts (stage_of m.player) (stage_of c.turn.new.self) c.turn.result c.turn.ensures.done).0 in
    let asked = if_some _ _ _ c.in-Some.is c.in-Ok-request_for.ensures.asks in
    let heard_is : c.heard_as.result ≡ heard_by heard c.args.path.now = search rules in
    let went : is_err c.turn.result ≡ false = search rules in
    gets_reply (peer_of p) (stage_of c.turn.new.self) (stage_of c.ask.new.player) _ peer_moment (Replied reply.status reply.headers reply.body) c.args.path.now c.args.fields.now
    heard c.heard_as.result m.refused (drop m.at m.piece) reply.status reply.headers reply.body heard_is c.end_reply.ensures.piece
    asked (omega (arith, c.end_reply.ensures.faults, c.end_reply.ensures.refused, turned)) refl c.in-Ok-ask.ensures.done
    (λ askable. stays_told p.heard c.heard_as.result heard (drop p.at p.piece) (drop m.at m.piece) p.body p.refused m.refused reply.body
    (stage_of p.player) (stage_of m.player) (stage_of c.turn.new.self) (stage_of c.ask.new.player) _ peer_moment c.turn.result
    (Replied reply.status reply.headers reply.body) c.args.path.now c.args.fields.now c.turn.ensures.done c.in-Ok-ask.ensures.done asked
    heard_is c.end_reply.ensures.rules c.end_reply.ensures.still (hears_some _ _ c.in-Some.is (c.in-Ok-request_for.ensures.hears askable)))
    (turns_told p.heard c.heard_as.result heard (drop p.at p.piece) (drop m.at m.piece) p.body p.refused m.refused reply.body
    (stage_of p.player) (stage_of m.player) (stage_of c.turn.new.self) (stage_of c.ask.new.player) _ peer_moment c.turn.result
    (Replied reply.status reply.headers reply.body) c.args.path.now c.args.fields.now c.turn.ensures.done c.in-Ok-ask.ensures.done asked
    c.end_reply.ensures.leaves went)
    (λ askable. world_goes p.heard c.heard_as.result heard (drop p.at p.piece) (drop m.at m.piece) p.body p.refused m.refused reply.body
    (stage_of p.player) (stage_of m.player) (stage_of c.turn.new.self) (stage_of c.ask.new.player) _ peer_moment c.turn.result
    (Replied reply.status reply.headers reply.body) c.args.path.now c.args.fields.now c.turn.ensures.done c.in-Ok-ask.ensures.done asked
    c.end_reply.ensures.leaves went)

pub returns-in-Ok-ask-clause-since : goal.returns-in-Ok-ask-clause-since
returns-in-Ok-ask-clause-since g c =
    let p = c.args.self.now in
    let m = c.end_reply.new.self in
    let reply = c.in-Ok-ask.reply in
    let asked = if_some _ _ _ c.in-Some.is c.in-Ok-request_for.ensures.asks in
    λ s by.
    let ended = subst (λ x. CameBy s p.turns (file_of x (playing_of m.player)) (g.D.Disk.state m.player.store.disk)) c.in-Ok.ensures.body (c.end_reply.ensures.came s p.turns by) in
    let turned = came_went s p.turns _ (stage_of m.player) (stage_of c.turn.new.self) c.turn.result (search rules) (search rules) c.turn.ensures.done ended in
    came_answered s _ (stage_of c.turn.new.self) (stage_of c.ask.new.player) _ peer_moment c.args.fields.now asked.get turned (Replied reply.status reply.headers reply.body) reply.status reply.headers reply.body refl
    c.in-Ok-ask.ensures.done

pub returns-in-Err-ask-clause-since : goal.returns-in-Err-ask-clause-since
returns-in-Err-ask-clause-since g c =
    let p = c.args.self.now in
    let m = c.end_reply.new.self in
    let asked = if_some _ _ _ c.in-Some.is c.in-Ok-request_for.ensures.asks in
    λ s by.
    let ended = subst (λ x. CameBy s p.turns (file_of x (playing_of m.player)) (g.D.Disk.state m.player.store.disk)) c.in-Ok.ensures.body (c.end_reply.ensures.came s p.turns by) in
    let turned = came_went s p.turns c.saturating_add-self-2.result (stage_of m.player) (stage_of c.turn.new.self) c.turn.result (search rules) (search rules) c.turn.ensures.done ended in
    subst (λ x. CameBy s c.saturating_add-self-2.result (file_of x (playing_of c.ask.new.player)) (g.D.Disk.state c.ask.new.player.store.disk)) (sym c.in-Ok.ensures.body)
    (came_unanswered s _ (stage_of c.turn.new.self) (stage_of c.ask.new.player) _ peer_moment c.args.fields.now asked.get turned c.in-Err-ask.field-0 c.in-Err-ask.ensures.done)

pub returns-then-is_err-clause-since : goal.returns-then-is_err-clause-since
returns-then-is_err-clause-since g c =
    let p = c.args.self.now in
    let m = c.end_reply.new.self in
    λ s by.
    let ended = subst (λ x. CameBy s p.turns (file_of x (playing_of m.player)) (g.D.Disk.state m.player.store.disk)) c.in-Ok.ensures.body (c.end_reply.ensures.came s p.turns by) in
    subst (λ x. CameBy s m.turns (file_of x (playing_of c.turn.new.self)) (g.D.Disk.state c.turn.new.self.store.disk)) (sym c.in-Ok.ensures.body)
    (subst (λ n. CameBy s n None (g.D.Disk.state c.turn.new.self.store.disk)) (sym c.end_reply.ensures.turns) (came_stopped s p.turns (stage_of m.player) (stage_of c.turn.new.self) c.turn.result (search rules) c.turn.ensures.done ended))
