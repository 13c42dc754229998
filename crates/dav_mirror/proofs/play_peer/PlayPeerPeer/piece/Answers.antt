use Rattle.std.proofs.Common.{◌≡◌, ◌<◌, ◌∙◌, Ok, Err, [], ap, drop, length, min, subst, sym, arith}
use Rattle.std.proofs.lemmas.List.{drop_all}
use Rattle.dav_model.specs.Bodies.{read_size_of}
use Rattle.dav_model.specs.declared.answer.Answer.TheVariants.{Broken, End, Piece}
use Rattle.dav_model.specs.declared.step.Step.TheVariants.{Poll}
use Rattle.dav_handler.specs.By.{by_store}
use Rattle.dav_handler.specs.Held.{body_at}
use Rattle.dav_handler.specs.Player.{playing_of, stage_of}
use Rattle.dav_handler.proofs.Upkeep.{stays_full}
use Rattle.dav_mirror.specs.Came.{CameBy, file_of}
use Rattle.dav_mirror.specs.Playing.{peer_of}
use Rattle.dav_mirror.specs.Seen.{peer_in}
use Rattle.dav_mirror.proofs.Coming.{came_by_poll, came_same}
use Rattle.dav_mirror.proofs.Telling.{gives_broken, gives_end, gives_piece, gives_refused, gives_same, peer_same, poll_no_reply, poll_not_done, stepped_as}
use Rattle.dav_mirror.proofs.play_peer.PlayPeerPeer.piece.Goals as goal

pub returns-in-Ok-Piece-clause-gives : goal.returns-in-Ok-Piece-clause-gives
returns-in-Ok-Piece-clause-gives g c =
    let p = c.args.self.now in
    let t = c.give-in-Ok-Piece.new.self in
    let e = c.give-in-Ok-Piece.ensures in
    let a = stage_of p.player in
    let b = stage_of c.poll_over.new.self in
    let none : drop p.at p.piece ≡ [] = drop_all p.at p.piece (omega (arith, c.if-self-as_slice.false, ap length c.as_slice.ensures)) in
    let room : 0 < length c.give-in-Ok-Piece.new.into = omega (arith, c.requires, e.len) in
    gives_same (peer_of p) (peer_of t) (peer_in p.heard (drop t.at t.piece) p.body p.refused b) _ _
    (peer_same p.heard t.heard (drop t.at t.piece) p.body t.body p.refused t.refused b (stage_of t.player) e.body.1 e.body.0 e.refused e.stage)
    (gives_piece p.heard c.in-Some.body p.refused p.body c.in-Some.is a b (drop p.at p.piece) c.give-in-Ok-Piece.new.into none c.in-Ok-Piece.piece (drop t.at t.piece) c.give-in-Ok-Piece.result e.given
    (e.count ∙ ap (min (length c.in-Ok-Piece.piece)) (sym e.len)) room
    (stays_full (read_size_of p.player.settings.read_buf_size) (g.D.Disk.state p.player.store.disk) (body_at p.player.bodies) (by_store g.R.Remember.state p.player.settings p.player.store) p.player.replies p.player.replies p.player.ok)
    (stepped_as a b (Poll c.in-Some.body) c.in-Ok-Piece.field-0 (Piece c.in-Ok-Piece.piece) c.in-Ok-Piece.field-0-is c.in-Ok-Piece.ensures.done))

pub returns-in-Ok-Broken-clause-gives : goal.returns-in-Ok-Broken-clause-gives
returns-in-Ok-Broken-clause-gives g c =
    let p = c.args.self.now in
    let none : drop p.at p.piece ≡ [] = drop_all p.at p.piece (omega (arith, c.if-self-as_slice.false, ap length c.as_slice.ensures)) in
    gives_broken p.heard c.in-Some.body p.refused p.body c.in-Some.is (stage_of p.player) (stage_of c.poll_over.new.self) (drop p.at p.piece) c.args.into.now none
    (stepped_as (stage_of p.player) (stage_of c.poll_over.new.self) (Poll c.in-Some.body) c.in-Ok-Broken.field-0 Broken c.in-Ok-Broken.field-0-is c.in-Ok-Broken.ensures.done) c.replace.new.dest (c.replace.ensures.after ∙ c.empty.ensures)

pub returns-in-Ok-End-clause-gives : goal.returns-in-Ok-End-clause-gives
returns-in-Ok-End-clause-gives g c =
    let p = c.args.self.now in
    let none : drop p.at p.piece ≡ [] = drop_all p.at p.piece (omega (arith, c.if-self-as_slice.false, ap length c.as_slice.ensures)) in
    gives_end p.heard c.in-Some.body p.refused p.body c.in-Some.is (stage_of p.player) (stage_of c.poll_over.new.self) (drop p.at p.piece) c.args.into.now none
    (stepped_as (stage_of p.player) (stage_of c.poll_over.new.self) (Poll c.in-Some.body) c.in-Ok-End.field-0 End c.in-Ok-End.field-0-is c.in-Ok-End.ensures.done) c.replace.new.dest (c.replace.ensures.after ∙ c.empty.ensures)

pub returns-in-Ok-Reply-clause-gives : goal.returns-in-Ok-Reply-clause-gives
returns-in-Ok-Reply-clause-gives g c =
    absurd (poll_no_reply (stage_of c.args.self.now.player) (stage_of c.poll_over.new.self) c.in-Some.body _ _ _ _ c.in-Ok-Reply.field-0-is c.in-Ok-Reply.ensures.done)

pub returns-in-Ok-Done-clause-gives : goal.returns-in-Ok-Done-clause-gives
returns-in-Ok-Done-clause-gives g c =
    absurd (poll_not_done (stage_of c.args.self.now.player) (stage_of c.poll_over.new.self) c.in-Some.body _ c.in-Ok-Done.field-0-is c.in-Ok-Done.ensures.done)

pub returns-clause-gives : goal.returns-clause-gives
returns-clause-gives g c =
    let p = c.args.self.now in
    let none : drop p.at p.piece ≡ [] = drop_all p.at p.piece (omega (arith, c.if-self-as_slice.false, ap length c.as_slice.ensures)) in
    gives_refused p.heard c.in-Some.body p.refused p.body c.in-Some.is (stage_of p.player) (stage_of c.poll_over.new.self) (drop p.at p.piece) c.args.into.now none
    c.in-Err.field-0 c.in-Err.ensures.done c.replace.new.dest (c.replace.ensures.after ∙ c.empty.ensures)

pub returns-in-Ok-Piece-clause-since : goal.returns-in-Ok-Piece-clause-since
returns-in-Ok-Piece-clause-since g c =
    let p = c.args.self.now in
    let t = c.give-in-Ok-Piece.new.self in
    λ s by. subst (λ n. CameBy s n (file_of t.body (playing_of t.player)) (g.D.Disk.state t.player.store.disk)) (sym c.give-in-Ok-Piece.ensures.turns)
    (came_same s p.turns (stage_of c.poll_over.new.self) (stage_of t.player) p.body t.body c.give-in-Ok-Piece.ensures.stage c.give-in-Ok-Piece.ensures.body.0
    (came_by_poll s p.turns (stage_of p.player) (stage_of c.poll_over.new.self) p.body c.in-Some.body (Ok c.in-Ok-Piece.field-0) c.in-Some.is c.in-Ok-Piece.ensures.done by))

pub returns-in-Ok-End-clause-since : goal.returns-in-Ok-End-clause-since
returns-in-Ok-End-clause-since g c =
    let p = c.args.self.now in
    λ s by. came_by_poll s p.turns (stage_of p.player) (stage_of c.poll_over.new.self) p.body c.in-Some.body (Ok c.in-Ok-End.field-0) c.in-Some.is c.in-Ok-End.ensures.done by

pub returns-in-Ok-Broken-clause-since : goal.returns-in-Ok-Broken-clause-since
returns-in-Ok-Broken-clause-since g c =
    let p = c.args.self.now in
    λ s by. came_by_poll s p.turns (stage_of p.player) (stage_of c.poll_over.new.self) p.body c.in-Some.body (Ok c.in-Ok-Broken.field-0) c.in-Some.is c.in-Ok-Broken.ensures.done by

pub returns-clause-since : goal.returns-clause-since
returns-clause-since g c =
    let p = c.args.self.now in
    λ s by. came_by_poll s p.turns (stage_of p.player) (stage_of c.poll_over.new.self) p.body c.in-Some.body (Err c.in-Err.field-0) c.in-Some.is c.in-Err.ensures.done by
