use Rattle.std.proofs.Common.{◌≡◌}
use Rattle.dav_io.specs.Outside.{Stream}
use Rattle.dav_handler.specs.Player.{playing_of, stage_of}
use Rattle.dav_serving.specs.Serving.{setup_by}
use Rattle.dav_serving.specs.Stages.{outside_of}
use Rattle.dav_serving.proofs.Progress.{Progress, steps_left}
use Rattle.dav_serving.proofs.serving.answer_all.Given as goal

abbrev pub decreases-requests : goal.decreases-requests
decreases-requests g l = steps_left l.held.input

abbrev pub invariant-requests : goal.invariant-requests
invariant-requests g l = record {
  clock : g.C.Clock.shows l.clock ≡ g.C.Clock.shows l.fn.clock;
  loan : g.D.Disk.loan l.player.store.disk ≡ g.D.Disk.loan l.fn.player.store.disk;
  rules : (playing_of l.player).rules ≡ (playing_of l.fn.player).rules;
  progress : Progress (setup_by (g.C.Clock.shows l.fn.clock) (stage_of l.fn.player))
      (outside_of (g.S.Client.stream l.fn.source) (g.K.Sink.stream l.fn.sink) (stage_of l.fn.player).at)
      l.held.input l.held.output
      (outside_of (g.S.Client.stream l.source) (g.K.Sink.stream l.sink) (stage_of l.player).at) (playing_of l.player).knows;
  may : (left written : Stream) → g.S.Client.may l.fn.source left written → g.S.Client.may l.source left written;
}
