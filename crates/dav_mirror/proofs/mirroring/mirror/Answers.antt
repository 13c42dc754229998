use Rattle.std.proofs.Common.{◌≡◌, [], Ok, Err, ap, drop, refl, rules, subst, arith}
use Rattle.dav_io.specs.Counts.{Rose}
use Rattle.dav_fetch.specs.declared.error.MirrorError.TheVariants.{Peer as PeerFailed}
use Rattle.dav_fetch.specs.Fetching.{Fetched, is_peer_failure}
use Rattle.dav_fetch.specs.Peer.{Calls, CountsFailure, PeerState}
use Rattle.dav_handler.specs.Player.{playing_of, stage_of}
use Rattle.dav_mirror.specs.Came.{file_of}
use Rattle.dav_mirror.specs.Lines.{lines_of}
use Rattle.dav_mirror.specs.Mirrors.{Writes, most_requests}
use Rattle.dav_mirror.specs.Playing.{calls_of, peer_of}
use Rattle.dav_mirror.specs.Seen.{path_of}
use Rattle.dav_mirror.proofs.Coming.{few_turns}
use Rattle.dav_mirror.proofs.Failing.{disk_rose, ends_by_error, error_broke, fetched_rose, mirrored, none_refused, reply_named, reports_end, same_faults}
use Rattle.dav_mirror.proofs.Telling.{told_world}
use Rattle.dav_mirror.proofs.mirroring.mirror.Goals as goal

pub returns-in-Ok : goal.returns-in-Ok
returns-in-Ok g c =
    let p = c.fetch-answer.new.peer in
    let first = peer_of c.peer_over-peer.result in
    let none : p.refused ≡ 0 = none_refused (playing_of p.player).replies p.refused (omega (arith, c.in-Ok.ensures.calls.replies, ap (λ (z : Calls). z.replies) c.peer_over-peer.ensures.calls)) in
    let came = c.in-Ok.ensures.since (g.D.Disk.state c.args.disk.now) c.peer_over-peer.ensures.since in
    mirrored _ _ (g.D.Disk.state p.player.store.disk.now) _ _ _ _ (search rules) (record {
      last = peer_of p;
      faults = same_faults (g.D.Disk.state p.player.store.disk.now).faults p.refused none;
      tells = λ v e. told_world p.heard (drop p.at p.piece) p.body (stage_of p.player) v e;
      copy = c.fetch-answer.new.copy;
      reports = search rules;
      answer = Ok tt;
      fetched = subst (λ s. Fetched s (record { dirs = []; files = [] }) most_requests (Ok tt) (peer_of p) c.fetch-answer.new.copy) c.peer_over-peer.ensures.peer
          (subst (λ z. Fetched first z most_requests (Ok tt) (peer_of p) c.fetch-answer.new.copy) c.empty-copy.ensures.nothing c.in-Ok.ensures.fetched);
      file = file_of p.body (playing_of p.player);
      turns = came.turns;
      few = few_turns p.turns came.turns came.counted (omega (arith, c.in-Ok.ensures.calls.turns, ap (λ (z : Calls). z.turns) c.peer_over-peer.ensures.calls));
      came = came.came;
      ends = subst (λ f. Writes (lines_of f) (g.K.Sink.stream c.args.sink.now) c.write_lines.result (g.K.Sink.stream c.write_lines.new.sink)) c.as_slice-files.ensures c.write_lines.ensures;
    })

pub returns : goal.returns
returns g c =
    let p = c.fetch-answer.new.peer in
    let first = peer_of c.peer_over-peer.result in
    let none : p.refused ≡ 0 = none_refused (playing_of p.player).replies p.refused (omega (arith, c.in-Err.ensures.calls.replies, ap (λ (z : Calls). z.replies) c.peer_over-peer.ensures.calls)) in
    let came = c.in-Err.ensures.since (g.D.Disk.state c.args.disk.now) c.peer_over-peer.ensures.since in
    let fetched = subst (λ z. Fetched first z most_requests (Err c.in-Err.error) (peer_of p) c.fetch-answer.new.copy) c.empty-copy.ensures.nothing c.in-Err.ensures.fetched in
    let whole = subst (λ s. Fetched s (record { dirs = []; files = [] }) most_requests (Err c.in-Err.error) (peer_of p) c.fetch-answer.new.copy) c.peer_over-peer.ensures.peer fetched in
    let rose : c.in-Err.error ≡ PeerFailed → Rose 0 p.failures = λ is. subst (λ n. Rose n p.failures) (ap (λ (z : Calls). z.failures) c.peer_over-peer.ensures.calls)
    (subst (λ e. CountsFailure (is_peer_failure {A = Unit} (Err e)) (calls_of c.peer_over-peer.result) (calls_of p)) is c.in-Err.ensures.calls.failures) in
    mirrored _ _ (g.D.Disk.state p.player.store.disk.now) _ _ _ _ (search rules) (record {
      last = peer_of p;
      faults = same_faults (g.D.Disk.state p.player.store.disk.now).faults p.refused none;
      tells = λ v e. told_world p.heard (drop p.at p.piece) p.body (stage_of p.player) v e;
      copy = c.fetch-answer.new.copy;
      reports = reports_end c.in-Err.error c.fetch-answer.new.copy _ (peer_of p) (path_of p.heard) _ (search rules)
          (λ is. let (path, at, named) = reply_named p.heard p.body p.failures p.refused p.first none (rose is) in (path, at, error_broke c.in-Err.error _ (peer_of p) _ c.fetch-answer.new.copy most_requests path whole is named));
      answer = Err c.in-Err.error;
      fetched = whole;
      file = file_of p.body (playing_of p.player);
      turns = came.turns;
      few = few_turns p.turns came.turns came.counted (omega (arith, c.in-Err.ensures.calls.turns, ap (λ (z : Calls). z.turns) c.peer_over-peer.ensures.calls));
      came = came.came;
      ends = ends_by_error c.in-Err.error c.fetch-answer.new.copy _ _ _ _ _ refl c.status_of-status.ensures
          (λ is. disk_rose first (peer_of p) _ _ (ap (λ (z : PeerState). z.faults) c.peer_over-peer.ensures.peer) (same_faults (g.D.Disk.state p.player.store.disk.now).faults p.refused none)
          (fetched_rose first (peer_of p) _ c.fetch-answer.new.copy most_requests (subst (λ e. Fetched first (record { dirs = []; files = [] }) most_requests (Err e) (peer_of p) c.fetch-answer.new.copy) is fetched)));
    })
