use Rattle.std.proofs.Common.{◌+◌, ap, subst, sym}
use Rattle.dav_model.specs.Play.{Stage}
use Rattle.dav_disk.specs.Sure.{sure_state}
use Rattle.dav_handler.specs.Player.{stage_of}
use Rattle.dav_bench.specs.Report.{Benches}
use Rattle.dav_bench.proofs.Reported.{benched, benched_none}
use Rattle.dav_bench.proofs.benching.bench.Goals as goal

pub returns-in-Ok : goal.returns-in-Ok
returns-in-Ok g c =
    let a : Stage = stage_of c.player_over-player.result in
    let b : Stage = stage_of c.counts_over-counts.new.player in
    subst (λ seed. Benches (seed + 1) (g.K.Sink.stream c.args.sink.now) c.report.result (g.K.Sink.stream c.report.new.sink)) c.from-m.ensures
    (benched (c.from-m.result + 1) c.in-Ok.counts c.in_ok-disk.disk c.into_parts-disk.result.0 a b (g.K.Sink.stream c.args.sink.now) c.report.result (g.K.Sink.stream c.report.new.sink)
    c.in-Ok.ensures.counts (c.player_over-player.ensures.ready (c.from-m.result + 1) c.in_ok-disk.ensures.made) c.player_over-player.ensures.begins c.in_ok-disk.ensures.listings
    c.in-Ok.ensures.asked (ap (λ z. sure_state z.0) (sym c.into_parts-disk.ensures)) c.report.ensures)

-- memory was refused before anything was written
pub returns : goal.returns
returns g c = benched_none (c.args.seed + 1) c.in-Err.refused (g.K.Sink.stream c.args.sink.now)
