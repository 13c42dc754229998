use Rattle.std.proofs.Common.{◌≡◌, ◌+◌, ◌<◌, ◌^◌}
use Rattle.dav_handler.specs.Player.{playing_of, stage_of}
use Rattle.dav_model.specs.Bodies.{size}
use Rattle.dav_serving.specs.Ends.{Begun}
use Rattle.dav_serving.specs.Exchange.{exchange_of}
use Rattle.dav_serving.specs.Stages.{work_of}
use Rattle.dav_serving.proofs.exchange.exchange.Given as goal

abbrev pub decreases-pieces : goal.decreases-pieces
decreases-pieces g l = size ((playing_of l.player).left l.reply.body)

abbrev pub invariant-pieces : goal.invariant-pieces
invariant-pieces g l = record {
  replies : l.player.replies + 2 < 2 ^ 32;
  loan : g.D.Disk.loan l.player.store.disk ≡ g.D.Disk.loan l.fn.player.store.disk;
  begun : Begun (exchange_of l.fn.request l.fn.now l.fn.manner.closing l.reply.status l.reply.headers l.reply.body)
      (work_of (g.K.Sink.stream l.fn.sink) l.fn.output (stage_of l.fn.player))
      (work_of (g.K.Sink.stream l.sink) l.output (stage_of l.player));
}
